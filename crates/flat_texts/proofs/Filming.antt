-- The pictures of one frame more, and of none.
use Rattle.std.proofs.Common.{◌≡◌, true, false, List, [], ◌∷◌, ◌++◌, refl, sym, ap, ◌∙◌, append-nil, true≢false}
use Rattle.std.specs.Prelude.{None, Some}
use Rattle.std.proofs.lemmas.Grind.{flat_map-append}
use Rattle.flat_base.specs.Last.{last_item}
use Rattle.flat_scene.specs.declared.frames.FrameOut.{FrameOut}
use Rattle.flat_scene.specs.declared.setup.Setup.{Setup}
use Rattle.flat_texts.specs.Films.{film_text, pictures_of}
use Rattle.flat_texts.specs.Filming.{is_any}
use Rattle.flat_texts.specs.Pictures.{list_of, picture_of}

pub any-more : (frames : List FrameOut) (frame : FrameOut) → is_any (frames ++ frame ∷ []) ≡ true
any-more [] frame = refl
any-more (first ∷ later) frame = refl

pub pictures-more : (setup : Setup) (frames : List FrameOut) (frame : FrameOut)
    → pictures_of setup (frames ++ frame ∷ []) ≡ pictures_of setup frames ++ picture_of setup (Some frame)
pictures-more setup frames frame =
    flat_map-append (λ (f : FrameOut). picture_of setup (Some f)) frames (frame ∷ [])
    ∙ ap (λ t. pictures_of setup frames ++ t) (append-nil (picture_of setup (Some frame)))

-- the text of a film with frames
pub film-some : (setup : Setup) (frames : List FrameOut) → is_any frames ≡ true → pictures_of setup frames ≡ film_text setup frames
film-some setup [] any = absurd (true≢false (sym any))
film-some setup (frame ∷ later) any = refl

-- and of one without
pub film-none : (setup : Setup) (frames : List FrameOut) → is_any frames ≡ false → picture_of setup None ≡ film_text setup frames
film-none setup [] none = refl
film-none setup (frame ∷ later) none = absurd (true≢false none)

-- before the first frame nothing is shown
pub shown-none : (frames : List FrameOut) → is_any frames ≡ false → list_of (last_item frames) ≡ []
shown-none [] none = refl
shown-none (frame ∷ later) none = absurd (true≢false none)
