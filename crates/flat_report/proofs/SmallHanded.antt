-- What is handed in, on small examples.
use Rattle.std.proofs.Common.{◌≡◌, ℕ, List, [], ◌∷◌, ◌++◌, refl}
use Rattle.flat_base.specs.declared.ids.SessionNo.{SessionNo}
use Rattle.flat_scene.specs.declared.frames.LostDisplay.{LostDisplay}
use Rattle.flat_scene.specs.declared.journal.Entry.{Entry}
use Rattle.flat_scene.specs.declared.journal.Event.{Event}
use Rattle.flat_scene.specs.declared.journal.EntryKind.TheVariants.{Finish, Poll}
use Rattle.flat_scene.specs.declared.journal.PostedEvent.{PostedEvent}
use Rattle.flat_scene.specs.declared.journal.Reply.{Reply}
use Rattle.flat_base.specs.declared.ids.Actor.{Actor}
use Rattle.flat_places.specs.declared.script.Script.{Script}
use Rattle.flat_report.specs.declared.probes.ProbeAnswer.{ProbeAnswer}
use Rattle.flat_report.specs.declared.report.HitAnswer.{HitAnswer}
use Rattle.flat_page.specs.Words.{text_of}
use Rattle.flat_lines.specs.EntryLines.{entry_line}
use Rattle.flat_report.specs.Handed.{Rest, after_entries, answers_text, entries_text, first_hits, first_posts, handed_text, rest_text}
use Rattle.flat_lines.specs.Ends.{end_line}

module _ (s : SessionNo) (event : Event) where
  abbrev post : ℕ → PostedEvent
  post place = record { entry = place; session = s; event = event }

  -- of three posts two are of the first entry
  two-first : first_posts 0 (post 0 ∷ post 0 ∷ post 1 ∷ []) ≡ 2
  two-first = refl

  module _ (script : Script) (lost : List LostDisplay) (text : List ℕ) (answers : List HitAnswer) (probes : List (List ProbeAnswer)) (actor : Actor)
      (reply : Reply)
    where
      abbrev done : Entry
      done = record { line = 5; actor = actor; calls = []; kind = Finish; reply = reply }

      abbrev poll : Entry
      poll = record { line = 6; actor = actor; calls = []; kind = Poll; reply = reply }

      abbrev start : Rest
      start = record { place = 0; finished = 0; texts = text ∷ []; answers = answers; posts = post 0 ∷ post 0 ∷ post 1 ∷ [] }

      abbrev middle : Rest
      middle = record { place = 1; finished = 1; texts = []; answers = answers; posts = post 1 ∷ [] }

      -- a done has the text of a frame and its two posts, and a poll after it has what is left; behind it stand the answers to probes
      in-turn : rest_text script lost probes start (done ∷ poll ∷ [])
          ≡ (handed_text script lost 0 (text ∷ []) answers (post 0 ∷ post 0 ∷ []) done ++ (handed_text script lost 1 [] answers (post 1 ∷ []) poll ++ []))
          ++ (answers_text script probes ++ text_of (end_line 2 1 ∷ []))
      in-turn = refl

      -- the same two entries alone
      alone : entries_text script lost start (done ∷ poll ∷ [])
          ≡ handed_text script lost 0 (text ∷ []) answers (post 0 ∷ post 0 ∷ []) done ++ (handed_text script lost 1 [] answers (post 1 ∷ []) poll ++ [])
      alone = refl

      -- what is left between them: one frame is finished, its text is taken, and so are two posts
      between : after_entries start (done ∷ []) ≡ middle
      between = refl

      -- so a report that is cut there begins again with the second entry's own post
      after_cut : entries_text script lost (after_entries start (done ∷ [])) (poll ∷ []) ≡ handed_text script lost 1 [] answers (post 1 ∷ []) poll ++ []
      after_cut = refl

      -- between the line of a done and its events stand the text of the frame and the displays that were lost at it
      shown : handed_text script [] 0 (text ∷ []) answers [] done ≡ text_of (entry_line script 0 (λ x y. first_hits answers) done ∷ []) ++ (text ++ []) ++ []
      shown = refl
