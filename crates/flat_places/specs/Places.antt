-- The places of a line: numbers of a range, and names of a sort.
use Rattle.std.specs.Prelude.{ℕ, ◌+◌, ◌-◌, ◌^◌, nat_le, nat_lt, ℤ, pos, negsuc, Bool, true, false, ◌&&◌, List, [], ◌∷◌}
use Rattle.std.specs.Prelude.{Some, None, Ok, Err, option_and_then, slice_get, if◌then◌else◌, not, codes}
use Rattle.std.specs.List.{list_any}
use Rattle.std.specs.Option.{option_map_or}
use Rattle.flat_base.specs.declared.ids.Actor.{Actor}
use Rattle.flat_base.specs.declared.ids.Actor.TheVariants.{Session, Display}
use Rattle.flat_base.specs.declared.ids.SessionNo.{SessionNo}
use Rattle.flat_base.specs.declared.ids.PairNo.{PairNo}
use Rattle.flat_base.specs.declared.ids.FenceNo.{FenceNo}
use Rattle.flat_base.specs.declared.ids.BufferNo.{BufferNo}
use Rattle.flat_base.specs.declared.ids.TransformId.{TransformId}
use Rattle.flat_base.specs.declared.ids.ContentId.{ContentId}
use Rattle.flat_base.specs.declared.limits.TheConstants.{COLOUR_MAX, INSET_MAX, ONE, RATIO_MAX, RATIO_MIN, RATIO_SINCE}
use Rattle.flat_base.specs.declared.limits.TheConstants.{TIME_MAX, VERSION_MAX}
use Rattle.flat_base.specs.declared.shapes.IntRect.{IntRect}
use Rattle.flat_base.specs.declared.shapes.Orientation.{Orientation}
use Rattle.flat_base.specs.declared.shapes.Orientation.TheVariants.{Ccw0, Ccw90, Ccw180, Ccw270}
use Rattle.flat_scene.specs.declared.calls.Inset.{Inset}
use Rattle.flat_scene.specs.declared.calls.BlendMode.{BlendMode}
use Rattle.flat_scene.specs.declared.calls.BlendMode.TheVariants.{Src, SrcOver}
use Rattle.flat_scene.specs.declared.calls.ImageFlip.{ImageFlip}
use Rattle.flat_scene.specs.declared.calls.ImageFlip.TheVariants.{Plain, LeftRight, UpDown}
use Rattle.flat_scene.specs.declared.calls.Interaction.{Interaction}
use Rattle.flat_scene.specs.declared.calls.Interaction.TheVariants.{Default, SemanticallyInvisible}
use Rattle.flat_scene.specs.declared.calls.HitRegion.{HitRegion}
use Rattle.flat_scene.specs.Setups.{is_within}
use Rattle.flat_text.specs.Number.{natural, signed}
use Rattle.flat_places.specs.declared.script.Script.{Script}
use Rattle.flat_places.specs.declared.kinds.FaultKind.TheVariants.{BadHead, BadNumber, UnknownName, NotOwner}
use Rattle.flat_places.specs.declared.kinds.FaultKind.TheVariants.{UnknownVersion}
use Rattle.flat_places.specs.Forms.{Word, Reading, Form, both, mapped, or_kind, unless_kind, place, ◌<$>◌, ◌<*>◌, whole}
use Rattle.flat_places.specs.Forms.{each, one_or_more}
use Rattle.flat_places.specs.Known.{knows}
use Rattle.flat_places.specs.Names.{place_of, session_named, is_actor, is_name, is_declared, owner_named}
use Rattle.std.specs.Str.{bytes_eq}

-- numbers, whose kind of fault is BadNumber

-- a number below that one
abbrev pub number_below : ℕ → Form ℕ
number_below most = place (λ w. or_kind BadNumber
    (option_and_then (λ n. if nat_lt n most then Some n else None) (natural w)))

-- a number from one to another, both in the range
abbrev pub number_from : ℕ → ℕ → Form ℕ
number_from least most = place (λ w. or_kind BadNumber
    (option_and_then (λ n. if nat_le least n && nat_le n most then Some n else None) (natural w)))

-- a number of 32 bits with a sign
abbrev pub fits_i32 : ℤ → Bool
fits_i32 (pos n) = nat_lt n (2 ^ 31)
fits_i32 (negsuc n) = nat_lt n (2 ^ 31)

-- translations, the numbers of rectangles, and points
abbrev pub i32 : Form ℤ
i32 = place (λ w. or_kind BadNumber (option_and_then (λ n. if fits_i32 n then Some n else None) (signed w)))

-- sizes, scales, opacities, indices and counts
abbrev pub u32 : Form ℕ
u32 = number_below (2 ^ 32)

-- a channel of a colour
abbrev pub colour : Form ℕ
colour = number_below (COLOUR_MAX + 1)

-- a time of a present or of a frame's begin
abbrev pub time : Form ℕ
time = number_below (TIME_MAX + 1)

-- a transform's id
abbrev pub transform : Form TransformId
transform = (λ n. record { 0 = n }) <$> number_below (2 ^ 64)

-- ids of transforms, to the end of the line
abbrev pub transforms : List Word → Reading (List TransformId)
transforms = each (λ w. (transform (w ∷ [])).0)

-- a content's id
abbrev pub content : Form ContentId
content = (λ n. record { 0 = n }) <$> number_below (2 ^ 64)

-- x, y, width and height
abbrev pub int_rect : Form IntRect
int_rect = (λ x y w h. record { x = x; y = y; w = w; h = h }) <$> i32 <*> i32 <*> i32 <*> i32

-- what is made of x and y
abbrev pub point : {A : Type 0} → (ℤ → ℤ → A) → Form A
point make = make <$> i32 <*> i32

-- top, right, bottom and left
abbrev pub inset : Form Inset
inset = (λ t r b l. record { top = t; right = r; bottom = b; left = l }) <$> side <*> side <*> side <*> side
  where
    side : Form ℕ
    side = number_below (INSET_MAX + 1)

-- one of the values, which are numbered from first on
abbrev pub choice : {A : Type 0} → ℕ → List A → Form A
choice first values = place (λ w. or_kind BadNumber
    (option_and_then (λ n. if nat_le first n then slice_get values (n - first) else None) (natural w)))

-- 1 to 4
abbrev pub orientation : Form Orientation
orientation = choice 1 (Ccw0 ∷ Ccw90 ∷ Ccw180 ∷ Ccw270 ∷ [])

-- 1 to 2
abbrev pub blend : Form BlendMode
blend = choice 1 (Src ∷ SrcOver ∷ [])

-- 1 to 3
abbrev pub flip : Form ImageFlip
flip = choice 1 (Plain ∷ LeftRight ∷ UpDown ∷ [])

-- 0 to 1
abbrev pub interaction : Form Interaction
interaction = choice 0 (Default ∷ SemanticallyInvisible ∷ [])

-- a rectangle and an interaction
abbrev pub region : Form HitRegion
region = (λ r i. record { area = Some r; interaction = i }) <$> int_rect <*> interaction

-- regions to the end of the line, five words each
abbrev pub regions : List Word → Reading (List HitRegion)
regions [] = Ok []
regions (x ∷ y ∷ w ∷ h ∷ i ∷ words) = both (λ r rest. r ∷ rest) (region (x ∷ y ∷ w ∷ h ∷ i ∷ [])).0 (regions words)
regions words = both (λ r rest. r ∷ rest) (region words).0 (Ok [])

-- whether `unsquashable` stands here, where that version knows it; it is taken then
abbrev pub unsquashable : ℕ → Form Bool
unsquashable version [] = (Ok false, [])
unsquashable version (w ∷ words) =
    if bytes_eq w (codes "unsquashable") && knows version w then (Ok true, words) else (Ok false, w ∷ words)

-- a pixel ratio of the display
abbrev pub ratio : Form ℕ
ratio = number_from RATIO_MIN RATIO_MAX

-- the display's first pixel ratio, which is one where none is given, and where that version has none
abbrev pub first_ratio : ℕ → Form ℕ
first_ratio version [] = (Ok ONE, [])
first_ratio version (w ∷ words) = if nat_lt version RATIO_SINCE then (Ok ONE, w ∷ words) else ratio (w ∷ words)

-- names, whose kind of fault is UnknownName, or NotOwner where the actor doesn't own what is named

-- a session
abbrev pub session : Script → Form SessionNo
session s = place (λ w. or_kind UnknownName (session_named s w))

-- the place of the declared thing of that name, whose owners the test looks at
abbrev pub owned : {D : Type 0} → List Word → List D → (D → Bool) → Word → Reading ℕ
owned names declared owns w =
    option_map_or (λ i. unless_kind NotOwner (option_map_or owns (slice_get declared i) false) (Ok i))
    (place_of names w) (Err UnknownName)

-- a fence of the actor, as a word
abbrev pub fence_word : Script → Actor → Word → Reading FenceNo
fence_word s a w =
    mapped (λ i. record { 0 = i }) (owned s.fences s.setup.fences (λ d. list_any (is_actor a) d.owners) w)

-- a fence of the actor
abbrev pub fence : Script → Actor → Form FenceNo
fence s a = place (fence_word s a)

-- a pair whose view end the session owns
abbrev pub view_end : Script → SessionNo → Form PairNo
view_end s a = place (λ w. mapped (λ i. record { 0 = i })
    (owned s.pairs s.setup.pairs (λ d. is_actor (Session a) (Session d.view)) w))

-- a pair whose viewport end the session owns
abbrev pub viewport_end : Script → SessionNo → Form PairNo
viewport_end s a = place (λ w. mapped (λ i. record { 0 = i })
    (owned s.pairs s.setup.pairs (λ d. is_actor (Session a) d.viewport) w))

-- a buffer collection of the session
abbrev pub collection : Script → SessionNo → Form BufferNo
collection s a = place (λ w. mapped (λ i. record { 0 = i })
    (owned s.buffers s.setup.buffers (λ d. is_actor (Session a) (Session d.owner)) w))

-- the places of the head

-- the number, where there is such a version
abbrev pub known_version : Reading ℕ → Reading ℕ
known_version (Ok n) = if is_within VERSION_MAX n then Ok n else Err UnknownVersion
known_version (Err k) = Err k

-- the number of the version
abbrev pub version : Form ℕ
version = place (λ w. known_version (whole (number_below (2 ^ 32)) (w ∷ [])))

-- a pair with the display was declared
abbrev pub has_display_pair : Script → Bool
has_display_pair s = list_any (λ p. is_actor Display p.viewport) s.setup.pairs

-- a name that isn't declared yet
abbrev pub new_name : Script → Form Word
new_name s = place (λ w. if is_name w && not (is_declared s w) then Ok w else Err BadHead)

-- a session, or the display where no pair has it yet
abbrev pub pair_owner : Script → Form Actor
pair_owner s =
    place (λ w. unless_kind BadHead (not (bytes_eq w (codes "display") && has_display_pair s))
    (or_kind UnknownName (owner_named s w)))

-- an owner of a fence, as a word
abbrev pub owner_word : Script → Word → Reading Actor
owner_word s w = or_kind UnknownName (owner_named s w)

-- an owner of a fence
abbrev pub owner : Script → Form Actor
owner s = place (owner_word s)

-- one or more owners, to the end of the line
abbrev pub owners : Script → Form (List Actor)
owners s words = (one_or_more (owner_word s) words, [])
