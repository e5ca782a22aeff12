-- The canonical text of a script: the words of each of its lines.
use Rattle.std.specs.Prelude.{◌≡◌, ℕ, ◌+◌, ◌-◌, ◌==◌, ◌≤◌, Bool, true, false, ◌&&◌, List, [], ◌∷◌, ◌++◌, Option, Some}
use Rattle.std.specs.Prelude.{None, map, take, codes, if◌then◌else◌}
use Rattle.std.specs.List.{flat_map}
use Rattle.std.specs.Option.{option_map_or}
use Rattle.std.specs.Fmt.{decimal, signed_decimal}
use Rattle.flat_base.specs.declared.limits.TheConstants.{ONE}
use Rattle.flat_base.specs.declared.ids.SessionNo.{SessionNo}
use Rattle.flat_base.specs.declared.ids.PairNo.{PairNo}
use Rattle.flat_base.specs.declared.ids.FenceNo.{FenceNo}
use Rattle.flat_base.specs.declared.ids.BufferNo.{BufferNo}
use Rattle.flat_base.specs.declared.shapes.IntRect.{IntRect}
use Rattle.flat_base.specs.declared.shapes.Orientation.{Orientation}
use Rattle.flat_base.specs.declared.shapes.Orientation.TheVariants.{Ccw0, Ccw90, Ccw180, Ccw270}
use Rattle.flat_scene.specs.declared.calls.Inset.{Inset}
use Rattle.flat_scene.specs.declared.calls.BlendMode.{BlendMode}
use Rattle.flat_scene.specs.declared.calls.BlendMode.TheVariants.{Src, SrcOver}
use Rattle.flat_scene.specs.declared.calls.HitRegion.{HitRegion}
use Rattle.flat_scene.specs.declared.calls.PresentArgs.{PresentArgs}
use Rattle.flat_scene.specs.declared.calls.Watch.{Watch}
use Rattle.flat_scene.specs.declared.calls.Watch.TheVariants as watch
use Rattle.flat_scene.specs.declared.calls.Call.{Call}
use Rattle.flat_scene.specs.declared.calls.Call.TheVariants as call
use Rattle.flat_scene.specs.declared.script.WaitCondition.{WaitCondition}
use Rattle.flat_scene.specs.declared.script.WaitCondition.TheVariants as cond
use Rattle.flat_scene.specs.declared.script.SessionLine.{SessionLine}
use Rattle.flat_scene.specs.declared.script.SessionLine.TheVariants as line
use Rattle.flat_scene.specs.declared.script.DisplayLine.{DisplayLine}
use Rattle.flat_scene.specs.declared.script.DisplayLine.TheVariants as display
use Rattle.flat_scene.specs.declared.script.ProbeLine.{ProbeLine}
use Rattle.flat_scene.specs.declared.script.ProbeLine.TheVariants as probe
use Rattle.flat_scene.specs.declared.script.LineBody.{LineBody}
use Rattle.flat_scene.specs.declared.script.LineBody.TheVariants as body
use Rattle.flat_scene.specs.declared.script.ScriptLine.{ScriptLine}
use Rattle.flat_scene.specs.declared.setup.PairDecl.{PairDecl}
use Rattle.flat_scene.specs.declared.setup.BufferDecl.{BufferDecl}
use Rattle.flat_scene.specs.declared.setup.FenceDecl.{FenceDecl}
use Rattle.flat_forms.specs.declared.calls.CallName.{CallName}
use Rattle.flat_forms.specs.declared.calls.CallName.TheVariants.{CreateView, ReleaseView, CreateTransform}
use Rattle.flat_forms.specs.declared.calls.CallName.TheVariants.{ReleaseTransform, SetTranslation, SetOrientation}
use Rattle.flat_forms.specs.declared.calls.CallName.TheVariants.{SetScale, SetOpacity, SetClipBoundary, AddChild}
use Rattle.flat_forms.specs.declared.calls.CallName.TheVariants.{RemoveChild, ReplaceChildren, SetRootTransform}
use Rattle.flat_forms.specs.declared.calls.CallName.TheVariants.{CreateViewport, SetViewportProperties, ReleaseViewport}
use Rattle.flat_forms.specs.declared.calls.CallName.TheVariants.{CreateImage, SetImageSampleRegion}
use Rattle.flat_forms.specs.declared.calls.CallName.TheVariants.{SetImageDestinationSize, SetImageBlendingFunction}
use Rattle.flat_forms.specs.declared.calls.CallName.TheVariants.{SetImageFlip, SetImageOpacity, ReleaseImage}
use Rattle.flat_forms.specs.declared.calls.CallName.TheVariants.{CreateFilledRect, SetSolidFill, ReleaseFilledRect}
use Rattle.flat_forms.specs.declared.calls.CallName.TheVariants.{SetHitRegions, SetInfiniteHitRegion, SetContent, Clear}
use Rattle.flat_places.specs.declared.script.Script.{Script}
use Rattle.flat_places.specs.Forms.{Word}
use Rattle.flat_forms.specs.Calls.{text}
use Rattle.flat_script.specs.Grammar.{IsScript}
use Rattle.flat_page.specs.Words.{name_at, actor_name, line_of}
use Rattle.flat_print.specs.Choices.{flip_number, interaction_number}

-- names

-- a session's name
abbrev pub session_word : Script → SessionNo → Word
session_word s a = name_at s.sessions (a.0 - 1)

-- a pair's name
abbrev pub pair_word : Script → PairNo → Word
pair_word s p = name_at s.pairs p.0

-- a fence's name
abbrev pub fence_word : Script → FenceNo → Word
fence_word s f = name_at s.fences f.0

-- a buffer collection's name
abbrev pub buffers_word : Script → BufferNo → Word
buffers_word s b = name_at s.buffers b.0

-- numbers

-- numbers without a sign
abbrev pub numbers : List ℕ → List Word
numbers ns = map decimal ns

abbrev pub orientation_number : Orientation → ℕ
orientation_number Ccw0 = 1
orientation_number Ccw90 = 2
orientation_number Ccw180 = 3
orientation_number Ccw270 = 4

abbrev pub blend_number : BlendMode → ℕ
blend_number Src = 1
blend_number SrcOver = 2

-- x, y, width and height
abbrev pub rect_words : IntRect → List Word
rect_words r = signed_decimal r.x ∷ signed_decimal r.y ∷ signed_decimal r.w ∷ signed_decimal r.h ∷ []

-- top, right, bottom and left
abbrev pub inset_words : Inset → List Word
inset_words i = numbers (i.top ∷ i.right ∷ i.bottom ∷ i.left ∷ [])

-- an inset of 0 on all sides is left out
abbrev pub inset_unless_none : Inset → List Word
inset_unless_none i = if (i.top == 0) && (i.right == 0) && (i.bottom == 0) && (i.left == 0) then [] else inset_words i

-- a rectangle and an interaction
abbrev pub region_words : HitRegion → List Word
region_words r = option_map_or rect_words r.area [] ++ numbers (interaction_number r.interaction ∷ [])

-- calls

-- a call's fields
abbrev pub call_fields : Script → Call → List Word
call_fields s (call.CreateView p) = pair_word s p ∷ []
call_fields s call.ReleaseView = []
call_fields s (call.CreateTransform t) = numbers (t.0 ∷ [])
call_fields s (call.ReleaseTransform t) = numbers (t.0 ∷ [])
call_fields s (call.SetTranslation t x y) = decimal t.0 ∷ signed_decimal x ∷ signed_decimal y ∷ []
call_fields s (call.SetOrientation t o) = numbers (t.0 ∷ orientation_number o ∷ [])
call_fields s (call.SetScale t x y) = numbers (t.0 ∷ x ∷ y ∷ [])
call_fields s (call.SetOpacity t v) = numbers (t.0 ∷ v ∷ [])
call_fields s (call.SetClipBoundary t r) = decimal t.0 ∷ option_map_or rect_words r []
call_fields s (call.AddChild p k) = numbers (p.0 ∷ k.0 ∷ [])
call_fields s (call.RemoveChild p k) = numbers (p.0 ∷ k.0 ∷ [])
call_fields s (call.ReplaceChildren p ks) = decimal p.0 ∷ map (λ k. decimal k.0) ks
call_fields s (call.SetRootTransform t) = numbers (t.0 ∷ [])
call_fields s (call.CreateViewport c p w h i) =
    decimal c.0 ∷ pair_word s p ∷ numbers (w ∷ h ∷ []) ++ inset_unless_none i
call_fields s (call.SetViewportProperties c w h i) = numbers (c.0 ∷ w ∷ h ∷ []) ++ option_map_or inset_words i []
call_fields s (call.ReleaseViewport c) = numbers (c.0 ∷ [])
call_fields s (call.CreateImage c b i w h) = decimal c.0 ∷ buffers_word s b ∷ numbers (i ∷ w ∷ h ∷ [])
call_fields s (call.SetImageSampleRegion c r) = decimal c.0 ∷ rect_words r
call_fields s (call.SetImageDestinationSize c w h) = numbers (c.0 ∷ w ∷ h ∷ [])
call_fields s (call.SetImageBlendingFunction c m) = numbers (c.0 ∷ blend_number m ∷ [])
call_fields s (call.SetImageFlip c f) = numbers (c.0 ∷ flip_number f ∷ [])
call_fields s (call.SetImageOpacity c v) = numbers (c.0 ∷ v ∷ [])
call_fields s (call.ReleaseImage c) = numbers (c.0 ∷ [])
call_fields s (call.CreateFilledRect c) = numbers (c.0 ∷ [])
call_fields s (call.SetSolidFill c r g b a w h) = numbers (c.0 ∷ r ∷ g ∷ b ∷ a ∷ w ∷ h ∷ [])
call_fields s (call.ReleaseFilledRect c) = numbers (c.0 ∷ [])
call_fields s (call.SetHitRegions t r) = decimal t.0 ∷ flat_map region_words r
call_fields s (call.SetInfiniteHitRegion t i) = numbers (t.0 ∷ interaction_number i ∷ [])
call_fields s (call.SetContent t c) = numbers (t.0 ∷ c.0 ∷ [])
call_fields s call.Clear = []

-- whether a call has others than up to three numbers
abbrev pub is_longer : Call → Bool
is_longer (call.CreateView p) = true
is_longer (call.SetTranslation t x y) = true
is_longer (call.SetClipBoundary t r) = true
is_longer (call.ReplaceChildren p ks) = true
is_longer (call.CreateViewport c p w h i) = true
is_longer (call.SetViewportProperties c w h i) = true
is_longer (call.CreateImage c b i w h) = true
is_longer (call.SetImageSampleRegion c r) = true
is_longer (call.SetSolidFill c r g b a w h) = true
is_longer (call.SetHitRegions t r) = true
is_longer _ = false

-- a call that has up to three numbers and no other, so many of these three, or else a longer one
abbrev pub IsFew : Option (ℕ × ℕ × ℕ × ℕ) → Call → Type 0
IsFew (Some few) c = (few.0 ≤ 3) × ((s : Script) → call_fields s c ≡ numbers (take few.0 (few.1 ∷ few.2 ∷ few.3 ∷ [])))
IsFew None c = is_longer c ≡ true

-- the name of a call
abbrev pub call_name : Call → CallName
call_name (call.CreateView p) = CreateView
call_name call.ReleaseView = ReleaseView
call_name (call.CreateTransform t) = CreateTransform
call_name (call.ReleaseTransform t) = ReleaseTransform
call_name (call.SetTranslation t x y) = SetTranslation
call_name (call.SetOrientation t o) = SetOrientation
call_name (call.SetScale t x y) = SetScale
call_name (call.SetOpacity t v) = SetOpacity
call_name (call.SetClipBoundary t r) = SetClipBoundary
call_name (call.AddChild p k) = AddChild
call_name (call.RemoveChild p k) = RemoveChild
call_name (call.ReplaceChildren p ks) = ReplaceChildren
call_name (call.SetRootTransform t) = SetRootTransform
call_name (call.CreateViewport c p w h i) = CreateViewport
call_name (call.SetViewportProperties c w h i) = SetViewportProperties
call_name (call.ReleaseViewport c) = ReleaseViewport
call_name (call.CreateImage c b i w h) = CreateImage
call_name (call.SetImageSampleRegion c r) = SetImageSampleRegion
call_name (call.SetImageDestinationSize c w h) = SetImageDestinationSize
call_name (call.SetImageBlendingFunction c m) = SetImageBlendingFunction
call_name (call.SetImageFlip c f) = SetImageFlip
call_name (call.SetImageOpacity c v) = SetImageOpacity
call_name (call.ReleaseImage c) = ReleaseImage
call_name (call.CreateFilledRect c) = CreateFilledRect
call_name (call.SetSolidFill c r g b a w h) = SetSolidFill
call_name (call.ReleaseFilledRect c) = ReleaseFilledRect
call_name (call.SetHitRegions t r) = SetHitRegions
call_name (call.SetInfiniteHitRegion t i) = SetInfiniteHitRegion
call_name (call.SetContent t c) = SetContent
call_name call.Clear = Clear

-- a call: its name and its fields
abbrev pub call_words : Script → Call → List Word
call_words s c = text (call_name c) ∷ call_fields s c

-- the other lines

-- a list of fences behind its keyword, unless it is empty
abbrev pub list_words : Script → Word → List FenceNo → List Word
list_words s keyword [] = []
list_words s keyword (f ∷ fs) = keyword ∷ map (fence_word s) (f ∷ fs)

-- the lists of a present
abbrev pub lists_words : Script → PresentArgs → List Word
lists_words s p = list_words s (codes "acquire") p.acquire ++ list_words s (codes "release") p.release

-- `unsquashable`, for a present that is
abbrev pub unsquashable_word : Bool → List Word
unsquashable_word unsquashable = if unsquashable then codes "unsquashable" ∷ [] else []

-- a present
abbrev pub present_words : Script → PresentArgs → List Word
present_words s p = codes "Present" ∷ decimal p.time ∷ unsquashable_word p.unsquashable ++ lists_words s p

-- what a Wait asks for
abbrev pub condition_words : Script → WaitCondition → List Word
condition_words s (cond.Frames n) = codes "frames" ∷ numbers (n ∷ [])
condition_words s (cond.Credits n) = codes "credits" ∷ numbers (n ∷ [])
condition_words s (cond.Taken n) = codes "taken" ∷ numbers (n ∷ [])
condition_words s (cond.Answers n) = codes "answers" ∷ numbers (n ∷ [])
condition_words s (cond.Fence f) = codes "fence" ∷ fence_word s f ∷ []
condition_words s (cond.Presents a n) = codes "presents" ∷ session_word s a ∷ numbers (n ∷ [])

-- a get
abbrev pub get_words : Watch → List Word
get_words watch.Layout = codes "GetLayout" ∷ []
get_words watch.Status = codes "GetStatus" ∷ []
get_words (watch.Child c) = codes "GetChildStatus" ∷ numbers (c.0 ∷ [])

-- a line of a session
abbrev pub session_words : Script → SessionLine → List Word
session_words s (line.Call c) = call_words s c
session_words s (line.Present p) = present_words s p
session_words s (line.Get w) = get_words w
session_words s (line.Signal f) = codes "Signal" ∷ fence_word s f ∷ []
session_words s line.Poll = codes "Poll" ∷ []
session_words s (line.Wait c) = codes "Wait" ∷ condition_words s c
session_words s line.Disconnect = codes "Disconnect" ∷ []

-- a line of the display
abbrev pub display_words : Script → DisplayLine → List Word
display_words s (display.Begin t) = codes "begin" ∷ numbers (t ∷ [])
display_words s display.Done = codes "done" ∷ []
display_words s (display.Signal f) = codes "Signal" ∷ fence_word s f ∷ []
display_words s (display.Wait c) = codes "Wait" ∷ condition_words s c
display_words s (display.Hit x y) = codes "hit" ∷ signed_decimal x ∷ signed_decimal y ∷ []
display_words s (display.Dpr ratio) = codes "dpr" ∷ numbers (ratio ∷ [])

-- a line of a probe
abbrev pub probe_words : ProbeLine → List Word
probe_words (probe.Hit x y) = codes "hit" ∷ signed_decimal x ∷ signed_decimal y ∷ []
probe_words (probe.Await n) = codes "await" ∷ numbers (n ∷ [])

-- what stands behind an actor
abbrev pub body_words : Script → LineBody → List Word
body_words s (body.Session l) = session_words s l
body_words s (body.Display l) = display_words s l
body_words s (body.Probe l) = probe_words l

-- a line of the body
abbrev pub line_words : Script → ScriptLine → List Word
line_words s l = actor_name s l.actor ∷ body_words s l.body

-- the head

-- a declaration of a name alone
abbrev pub name_words : Word → Word → List Word
name_words keyword name = keyword ∷ name ∷ []

-- the buffer collection of that number
abbrev pub buffers_line_words : Script → ℕ → BufferDecl → List Word
buffers_line_words s i d = codes "buffers" ∷ name_at s.buffers i ∷ session_word s d.owner
    ∷ numbers (d.count ∷ d.w ∷ d.h ∷ [])

-- the pair of that number
abbrev pub pair_line_words : Script → ℕ → PairDecl → List Word
pair_line_words s i d = codes "pair" ∷ name_at s.pairs i ∷ actor_name s d.viewport ∷ session_word s d.view ∷ []

-- the fence of that number
abbrev pub fence_line_words : Script → ℕ → FenceDecl → List Word
fence_line_words s i d = codes "fence" ∷ name_at s.fences i ∷ map (actor_name s) d.owners

-- a line for each item, by its number
abbrev pub numbered : {A : Type 0} → (ℕ → A → List Word) → ℕ → List A → List (List Word)
numbered f i [] = []
numbered f i (d ∷ ds) = f i d ∷ numbered f (i + 1) ds

-- the version
abbrev pub version_words : Script → List Word
version_words s = codes "flatland" ∷ numbers (s.version ∷ [])

-- the first pixel ratio, which is left out where it is one
abbrev pub ratio_words : ℕ → List Word
ratio_words ratio = if ratio == ONE then [] else decimal ratio ∷ []

-- the display
abbrev pub display_line_words : Script → List Word
display_line_words s = codes "display" ∷ decimal s.setup.width ∷ decimal s.setup.height ∷ ratio_words s.setup.ratio

-- all lines of the head behind the version: the display, and each sort in order of declaration
abbrev pub head_words : Script → List (List Word)
head_words s =
    display_line_words s ∷
    (map (name_words (codes "session")) s.sessions ++
    (map (name_words (codes "probe")) s.probes ++
    (numbered (buffers_line_words s) 0 s.setup.buffers ++
    (numbered (pair_line_words s) 0 s.setup.pairs ++
    (numbered (fence_line_words s) 0 s.setup.fences ++
    (codes "run" ∷ []) ∷ [])))))

-- all lines behind the version
abbrev pub script_words : Script → List (List Word)
script_words s = head_words s ++ map (line_words s) s.lines

-- texts

-- each line behind a line feed
abbrev pub fed : List (List Word) → List ℕ
fed [] = []
fed (words ∷ lines) = 10 ∷ (line_of words ++ fed lines)

-- the canonical text: the version, and the other lines, with no line feed at the end
abbrev pub text_of : Script → List ℕ
text_of s = line_of (version_words s) ++ fed (script_words s)

-- a line feed and the first word of a line stand behind what was there
pub record Starts (word : Word) (old new : List ℕ) : Type 0 where
  pub text : new ≡ old ++ 10 ∷ word

-- the lines stand behind what was there, each behind a line feed
pub record Feeds (lines : List (List Word)) (old new : List ℕ) : Type 0 where
  pub text : new ≡ old ++ fed lines

-- the line with its number left out
abbrev pub without_number : ScriptLine → ScriptLine
without_number l = record l { number = 0 }

-- the script with numbers of lines left out
abbrev pub unnumbered : Script → Script
unnumbered s = record s { lines = map without_number s.lines; count = 0 }

-- the scripts are the same up to the numbers of their lines
abbrev pub IsSameButNumbers : Script → Script → Type 0
IsSameButNumbers s t = unnumbered s ≡ unnumbered t

-- the text is read as a script that is the same up to the numbers of its lines
pub record IsReadBack (text : List ℕ) (s : Script) : Type 0 where
  pub again : Script
  pub read : IsScript text again
  pub same : IsSameButNumbers s again
