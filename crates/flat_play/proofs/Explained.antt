-- What is noted of a run, by the entry that a line makes, if it makes one. The Ends of sessions change nothing of what is told of frames.
use Rattle.std.proofs.Common.{◌≡◌, ◌≢◌, ℕ, Bool, true, false, All, cond, List, [], ◌∷◌, ◌++◌, length, filter, refl, sym, ap, ◌∙◌, subst, append-nil, suc, arith}
use Rattle.std.proofs.lemmas.List.{length-reverse}
use Rattle.std.specs.List.{list_all}
use Rattle.std.specs.Prelude.{Option, Some}
use Rattle.flat_base.proofs.lemmas.Tests.{and-left, and-right}
use Rattle.flat_page.specs.Words.{text_of}
use Rattle.flat_places.specs.declared.script.Script.{Script}
use Rattle.flat_report.specs.Report.{finished, frame_at}
use Rattle.flat_rules.specs.Drawable.{ItemsAreDrawable}
use Rattle.flat_rules.specs.Ends.{to_begin}
use Rattle.flat_rules.specs.Legal.{frames}
use Rattle.flat_scene.specs.declared.journal.Entry.{Entry}
use Rattle.flat_scene.specs.History.{◌▹◌, is_end, is_finish}
use Rattle.flat_scene.specs.Journals.{history_of}
use Rattle.flat_drawable.specs.Drawable.{IsDrawable}
use Rattle.flat_base.specs.Last.{last_item}
use Rattle.flat_page.proofs.lemmas.LastItems.{last-more}
use Rattle.flat_scene.specs.declared.frames.FrameOut.{FrameOut}
use Rattle.flat_texts.specs.Filming.{IsFilm}
use Rattle.flat_texts.specs.declared.film.Film as film
use Rattle.flat_why.specs.Text.{why_lines, whys_at}
use Rattle.flat_play.specs.declared.side_output.SideOutput.{SideOutput}
use Rattle.flat_play.specs.declared.side_output.SideOutput.TheVariants.{Off, On, Film}
use Rattle.flat_play.specs.Explaining.{StandsExplained, ToldExplained}
use Rattle.flat_why.specs.Noted.{WhysStand}
use Rattle.flat_why.specs.declared.reason_tracker.ReasonTracker.{ReasonTracker}
use Rattle.flat_play.specs.Touching.{enters, stays, GoesOnAt, GoesOnByEnds}
use Rattle.flat_play.proofs.Touching.{no-finish}

module _ (script : Script) where
  lines-ends : (ends old : List Entry) → list_all (λ (entry : Entry). is_end entry.kind) ends ≡ true → why_lines script (ends ++ old) ≡ why_lines script old
  lines-ends [] old all = refl
  lines-ends (entry ∷ later) old all =
      ap (λ b. why_lines script (later ++ old) ++ cond b (whys_at script (suc (frames (later ++ old))) (to_begin (later ++ old))) [])
      (no-finish script.setup entry.kind (and-left (is_end entry.kind) _ all))
      ∙ append-nil (why_lines script (later ++ old)) ∙ lines-ends later old (and-right (is_end entry.kind) _ all)

  frames-ends : (ends old : List Entry) → list_all (λ (entry : Entry). is_end entry.kind) ends ≡ true → frames (ends ++ old) ≡ frames old
  frames-ends [] old all = refl
  frames-ends (entry ∷ later) old all =
      ap (λ b. length (cond b (entry ∷ filter (λ (one : Entry). is_finish one.kind) (later ++ old))
      (filter (λ (one : Entry). is_finish one.kind) (later ++ old)))) (no-finish script.setup entry.kind (and-left (is_end entry.kind) _ all))
      ∙ frames-ends later old (and-right (is_end entry.kind) _ all)

  pub explained-ended : (old new : List Entry) (explaining : SideOutput) → GoesOnByEnds old new → finished script.setup new ≡ finished script.setup old
      → StandsExplained script old explaining → ToldExplained script new explaining
  explained-ended old new Off on frames_are stands = tt
  explained-ended old new (Film one) on frames_are stands = subst (λ fs. IsFilm script.setup fs one) (sym frames_are) stands
  explained-ended old new (On whys) on frames_are stands = record {
    frames = stands.tells.frames ∙ sym (frames-ends on.ends old on.are_ends) ∙ ap frames (sym on.is);
    text = stands.tells.text ∙ ap text_of (sym (lines-ends on.ends old on.are_ends) ∙ ap (why_lines script) (sym on.is));
  }

-- ---- a line makes an entry, or none

pub entered_so_far : (entries : List Entry) (history : List Entry) → history_of entries ≡ history → length history ≡ length entries
entered_so_far entries history is = ap (λ (h : List Entry). length h) (sym is) ∙ length-reverse entries

pub same-explained : (script : Script) (number : ℕ) (old new : List Entry) (whys : ReasonTracker) → length new ≡ length old → GoesOnAt number old new
    → WhysStand script old whys → WhysStand script new whys
same-explained script number old new whys same (stays is) stands = subst (λ h. WhysStand script h whys) (sym is) stands
same-explained script number old new whys same (enters entry line is) stands =
    absurd (let more : length new ≡ suc (length old) = ap (λ (h : List Entry). length h) is in omega (arith, same, more))

pub more-explained : (script : Script) (number : ℕ) (old new : List Entry) (whys : ReasonTracker) → length new ≢ length old → GoesOnAt number old new
    → WhysStand script old whys → (x : List Entry) × (entry : Entry) × (new ≡ (x ▹ entry)) × WhysStand script x whys
more-explained script number old new whys apart (stays is) stands = absurd (apart (ap (λ (h : List Entry). length h) is))
more-explained script number old new whys apart (enters entry line is) stands = (old, entry, is, stands)

-- ---- a line finishes a frame, or none

-- A history goes on by one frame, which is drawable.
pub record OneMore (script : Script) (old new : List Entry) : Type 0 where
  pub frame : FrameOut
  pub is : finished script.setup new ≡ finished script.setup old ++ frame ∷ []
  pub drawable : All IsDrawable frame.items

-- how many frames there are with an entry more
abbrev counted : Bool → List Entry → Entry → ℕ
counted b old entry = length (cond b (entry ∷ filter (λ (one : Entry). is_finish one.kind) old) (filter (λ (one : Entry). is_finish one.kind) old))

pub same-frames : (script : Script) (number : ℕ) (old new : List Entry) → frames new ≡ frames old → GoesOnAt number old new
    → finished script.setup new ≡ finished script.setup old
same-frames script number old new same (stays is) = ap (finished script.setup) is
same-frames script number old new same (enters entry line is) = ap (finished script.setup) is ∙ by (is_finish entry.kind) (sym (ap frames is) ∙ same)
  where
    by : (b : Bool) → counted b old entry ≡ frames old → finished script.setup old
        ++ cond b (frame_at script.setup (suc (frames old)) (to_begin old) ∷ []) [] ≡ finished script.setup old
    by false e = append-nil (finished script.setup old)
    by true e = absurd (let more : counted true old entry ≡ suc (frames old) = refl in omega (arith, e, more))

pub one-more : ItemsAreDrawable → (script : Script) (number : ℕ) (old new : List Entry) → frames new ≢ frames old → GoesOnAt number old new
    → OneMore script old new
one-more law script number old new apart (stays is) = absurd (apart (ap frames is))
one-more law script number old new apart (enters entry line is) = by (is_finish entry.kind) (ap (finished script.setup) is) (ap frames is)
  where
    by : (b : Bool) → finished script.setup new ≡ finished script.setup old ++ cond b (frame_at script.setup (suc (frames old)) (to_begin old) ∷ []) []
        → frames new ≡ counted b old entry → OneMore script old new
    by false fs e = absurd (apart e)
    by true fs e = record { frame = frame_at script.setup (suc (frames old)) (to_begin old); is = fs; drawable = law script.setup (to_begin old) }

pub same-film : (script : Script) (number : ℕ) (old new : List Entry) (one : film.Film) → frames new ≡ frames old → GoesOnAt number old new
    → IsFilm script.setup (finished script.setup old) one → IsFilm script.setup (finished script.setup new) one
same-film script number old new one same on stands = subst (λ fs. IsFilm script.setup fs one) (sym (same-frames script number old new same on)) stands

-- the last frame is the one by which a history goes on
pub last-one : (script : Script) (old new : List Entry) (one : OneMore script old new) (found : Option FrameOut) → found ≡ last_item (finished script.setup new)
    → found ≡ Some one.frame
last-one script old new one found is = is ∙ ap (λ (fs : List FrameOut). last_item fs) one.is ∙ last-more (finished script.setup old) one.frame
