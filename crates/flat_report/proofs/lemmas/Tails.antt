-- What is said of the entries after some others.
use Rattle.std.proofs.Common.{◌≡◌, ℕ, suc, ℤ, ◌+◌, ◌<◌, Bool, true, false, ◌==◌, cond, List, [], ◌∷◌, ◌++◌, length, reverse, map, take, drop, take_while}
use Rattle.std.proofs.Common.{get_or, refl, sym, ap, ◌∙◌, append_assoc, append-nil, add-one, arith}
use Rattle.std.proofs.lemmas.Grind.{flat_map-append}
use Rattle.std.proofs.lemmas.Bool.Decides.{nat_tests}
use Rattle.std.proofs.lemmas.List.{take_more, reverse-append}
use Rattle.std.proofs.lemmas.List.Sums.{take_while-cons}
use Rattle.flat_scene.specs.declared.frames.FrameOut.{FrameOut}
use Rattle.flat_scene.specs.declared.frames.Hit.{Hit}
use Rattle.flat_scene.specs.declared.frames.LostDisplay.{LostDisplay}
use Rattle.flat_scene.specs.declared.journal.Entry.{Entry}
use Rattle.flat_scene.specs.declared.journal.EntryKind.{EntryKind}
use Rattle.flat_scene.specs.declared.journal.EntryKind.TheVariants as kind
use Rattle.flat_scene.specs.declared.journal.PostedEvent.{PostedEvent}
use Rattle.flat_scene.specs.declared.journal.Reply.{Reply}
use Rattle.flat_scene.specs.declared.setup.Setup.{Setup}
use Rattle.flat_scene.specs.History.{◌▹◌, is_finish}
use Rattle.flat_rules.specs.Ends.{to_begin, to_finished}
use Rattle.flat_rules.specs.Legal.{frames}
use Rattle.flat_rules.specs.Posts.{Sent, posted}
use Rattle.flat_places.specs.declared.script.Script.{Script}
use Rattle.flat_report.specs.declared.report.HitAnswer.{HitAnswer}
use Rattle.flat_lines.specs.EntryLines.{point_words, said_words, entry_line, event_line}
use Rattle.flat_lines.specs.PostLines.{post_line}
use Rattle.flat_lines.specs.FrameLines.{frame_lines, lost_line, lost_at}
use Rattle.flat_report.specs.FrameTexts.{frame_text}
use Rattle.flat_report.specs.Handed.{answer_to, first_hits, texts_after, answers_after, shown_text, handed_text}
use Rattle.flat_report.specs.Report.{frame_at, hits_at, shown_lines, entry_lines}
use Rattle.flat_page.specs.Words.{line_of, number, text_of, actor_name}
use Rattle.flat_places.specs.Forms.{Word}

-- ---- histories, from the oldest entry on

-- a history with these entries after it, the oldest first
abbrev pub onto : List Entry → List Entry → List Entry
onto before [] = before
onto before (entry ∷ later) = onto (before ▹ entry) later

-- what each of these entries adds, after a history
abbrev pub tail : {A : Type 0} → (List Entry → Entry → List A) → List Entry → List Entry → List A
tail step before [] = []
tail step before (entry ∷ later) = step before entry ++ tail step (before ▹ entry) later

pub onto-append : (before xs ys : List Entry) → onto before (xs ++ ys) ≡ onto (onto before xs) ys
onto-append before [] ys = refl
onto-append before (x ∷ xs) ys = onto-append (before ▹ x) xs ys

pub onto-more : (xs : List Entry) (i : ℕ) (d : Entry) → i < length xs → onto [] (take (i + 1) xs) ≡ (onto [] (take i xs) ▹ get_or xs i d)
onto-more xs i d within = ap (onto []) (take_more xs i d within) ∙ onto-append [] (take i xs) (get_or xs i d ∷ [])

pub onto-reverse : (before xs : List Entry) → onto before xs ≡ reverse xs ++ before
onto-reverse before [] = refl
onto-reverse before (x ∷ xs) =
    onto-reverse (before ▹ x) xs ∙ sym (append_assoc (reverse xs) (x ∷ []) before) ∙ ap (λ t. t ++ before) (sym (reverse-append (x ∷ []) xs))

pub length-onto : (before xs : List Entry) → length (onto before xs) ≡ length before + length xs
length-onto before [] = omega arith
length-onto before (x ∷ xs) = length-onto (before ▹ x) xs ∙ omega arith

-- a list that grows with each entry is what it was, and what the later entries add
pub grows : {A : Type 0} (all : List Entry → List A) (step : List Entry → Entry → List A)
    → ((before : List Entry) (entry : Entry) → all (before ▹ entry) ≡ all before ++ step before entry)
    → (before later : List Entry) → all (onto before later) ≡ all before ++ tail step before later
grows all step more before [] = sym (append-nil (all before))
grows all step more before (entry ∷ later) =
    grows all step more (before ▹ entry) later ∙ ap (λ t. t ++ tail step (before ▹ entry) later) (more before entry)
    ∙ append_assoc (all before) (step before entry) (tail step (before ▹ entry) later)

-- ---- the three lists that are handed in

abbrev pub post_step : Setup → List Entry → Entry → List PostedEvent
post_step setup before entry = map (λ sent. record { entry = length before; session = sent.to; event = sent.event }) (posted setup before entry)

abbrev pub frame_step : Setup → List Entry → Entry → List FrameOut
frame_step setup before entry = cond (is_finish entry.kind) (frame_at setup (suc (frames before)) (to_begin before) ∷ []) []

abbrev pub answer_step : Setup → List Entry → Entry → List HitAnswer
answer_step setup before entry = answer_to entry (frames before) (hits_at setup (to_finished before)) entry.kind

-- ---- the events of an entry

-- the first of some posts, if there is one, is of an entry after that place
abbrev pub BeginsAfter : ℕ → List PostedEvent → Type 0
BeginsAfter place [] = Unit {0}
BeginsAfter place (post ∷ later) = place < post.entry

first_of_map : (n : ℕ) (sent : List Sent) (later : List PostedEvent) (place : ℕ) → place < n → BeginsAfter place later
    → BeginsAfter place (map (λ (one : Sent). let p : PostedEvent = record { entry = n; session = one.to; event = one.event } in p) sent ++ later)
first_of_map n [] later place after begins = begins
first_of_map n (one ∷ sent) later place after begins = after

pub begins-after : (setup : Setup) (place : ℕ) (before later : List Entry) → place < length before → BeginsAfter place (tail (post_step setup) before later)
begins-after setup place before [] after = tt
begins-after setup place before (entry ∷ later) after =
    first_of_map (length before) (posted setup before entry) (tail (post_step setup) (before ▹ entry) later) place after
    (begins-after setup place (before ▹ entry) later (omega arith))

none_taken : (place : ℕ) (later : List PostedEvent) → BeginsAfter place later → take_while (λ post. post.entry == place) later ≡ []
none_taken place [] begins = refl
none_taken place (post ∷ later) begins =
    let other : (post.entry == place) ≡ false = grind (arith, nat_tests) in
    take_while-cons (λ post. post.entry == place) post later ∙ rw other refl

all_taken : (place : ℕ) (sent : List Sent) (later : List PostedEvent) → BeginsAfter place later
    → take_while (λ post. post.entry == place) (map (λ (one : Sent). let p : PostedEvent = record { entry = place; session = one.to; event = one.event } in p)
    sent
    ++ later)
    ≡ map (λ (one : Sent). let p : PostedEvent = record { entry = place; session = one.to; event = one.event } in p) sent
all_taken place [] later begins = none_taken place later begins
all_taken place (one ∷ sent) later begins =
    let same : (place == place) ≡ true = grind (arith, nat_tests) in
    let p : PostedEvent = record { entry = place; session = one.to; event = one.event } in
    take_while-cons (λ post. post.entry == place) p (map
    (λ (other : Sent). let q : PostedEvent = record { entry = place; session = other.to; event = other.event } in q) sent ++ later)
    ∙ rw same (ap (λ t. p ∷ t) (all_taken place sent later begins))

-- the posts of the entry that is next are those that it adds
pub next_posts : (setup : Setup) (before : List Entry) (entry : Entry) (later : List Entry)
    → take_while (λ post. post.entry == length before) (tail (post_step setup) before (entry ∷ later)) ≡ post_step setup before entry
next_posts setup before entry later =
    all_taken (length before) (posted setup before entry) (tail (post_step setup) (before ▹ entry) later)
    (begins-after setup (length before) (before ▹ entry) later (omega arith))

-- ---- the lines of an entry

-- only an entry that asks for a point says hits
said : (script : Script) (n line : ℕ) (asked : EntryKind) (answer : Reply) (hits : ℤ → ℤ → List Hit) (some : List Hit)
    → ((x y : ℤ) → asked ≡ kind.Hit x y → some ≡ hits x y)
    → said_words script n (λ x y. some) line asked answer ≡ said_words script n hits line asked answer
said script n line (kind.Hit x y) answer hits some same = ap (λ hs. number line ∷ point_words script x y n hs) (same x y refl)
said script n line _ answer hits some same = refl

first_hits_are : (entry : Entry) (n : ℕ) (hits : ℤ → ℤ → List Hit) (later : List HitAnswer) (x y : ℤ) (asked : EntryKind) → asked ≡ kind.Hit x y
    → first_hits (answer_to entry n hits asked ++ later) ≡ hits x y
first_hits_are entry n hits later x y asked is = rw is refl

pub text-append : (xs ys : List (List Word)) → text_of (xs ++ ys) ≡ text_of xs ++ text_of ys
text-append xs ys = flat_map-append (λ words. line_of words ++ 10 ∷ []) xs ys

shown_is : (script : Script) (lost : List LostDisplay) (before : List Entry) (later : List FrameOut) (b : Bool)
    → cond b (shown_text lost (frames before + 1) (map (frame_text script)
    (cond b (frame_at script.setup (suc (frames before)) (to_begin before) ∷ []) [] ++ later))) [] ≡ text_of (cond b (shown_lines script lost before) [])
shown_is script lost before later true =
    let frame : FrameOut = frame_at script.setup (suc (frames before)) (to_begin before) in
    ap (λ n. frame_text script frame ++ text_of (map lost_line (lost_at n lost))) (add-one (frames before))
    ∙ sym (text-append (frame_lines script frame) (map lost_line (lost_at (suc (frames before)) lost)))
shown_is script lost before later false = refl

posts_are : (script : Script) (n : ℕ) (sent : List Sent)
    → map (post_line script) (map (λ (one : Sent). let p : PostedEvent = record { entry = n; session = one.to; event = one.event } in p) sent)
    ≡ map (λ one. event_line script one.to one.event) sent
posts_are script n [] = refl
posts_are script n (one ∷ sent) = ap (λ t. event_line script one.to one.event ∷ t) (posts_are script n sent)

-- what is written of the next entry by what is handed in from it on is the text of its lines
pub next_text : (script : Script) (lost : List LostDisplay) (before : List Entry) (entry : Entry) (later_frames : List FrameOut)
    (later_answers : List HitAnswer)
    → handed_text script lost (frames before) (map (frame_text script) (frame_step script.setup before entry ++ later_frames))
    (answer_step script.setup before entry ++ later_answers) (post_step script.setup before entry) entry
    ≡ text_of (entry_lines script lost before entry)
next_text script lost before entry later_frames later_answers =
    let hits : ℤ → ℤ → List Hit = hits_at script.setup (to_finished before) in
    let line : said_words script (frames before) (λ x y. first_hits (answer_step script.setup before entry ++ later_answers)) entry.line entry.kind entry.reply
    ≡ said_words script (frames before) hits entry.line entry.kind entry.reply =
    said script (frames before) entry.line entry.kind entry.reply hits _
    (λ x y is. first_hits_are entry (frames before) hits later_answers x y entry.kind is) in
    let own : List Word = entry_line script (frames before) hits entry in
    let shown : List (List Word) = cond (is_finish entry.kind) (shown_lines script lost before) [] in
    let events : List (List Word) = map (λ sent. event_line script sent.to sent.event) (posted script.setup before entry) in
    let handed_shown : List ℕ = cond (is_finish entry.kind)
    (shown_text lost (frames before + 1) (map (frame_text script) (frame_step script.setup before entry ++ later_frames))) [] in
    ap (λ ws. text_of ((actor_name script entry.actor ∷ ws) ∷ []) ++ handed_shown ++ text_of (map (post_line script) (post_step script.setup before entry)))
    line
    ∙ ap (λ t. text_of (own ∷ []) ++ t ++ text_of (map (post_line script) (post_step script.setup before entry)))
    (shown_is script lost before later_frames (is_finish entry.kind))
    ∙ ap (λ ps. text_of (own ∷ []) ++ text_of shown ++ text_of ps) (posts_are script (length before) (posted script.setup before entry))
    ∙ ap (λ t. t ++ text_of events) (sym (text-append (own ∷ []) shown))
    ∙ sym (text-append (own ∷ shown) events)

-- ---- what is left after an entry

texts_left : (script : Script) (b : Bool) (frame : FrameOut) (later : List FrameOut)
    → cond b (drop 1 (map (frame_text script) (cond b (frame ∷ []) [] ++ later))) (map (frame_text script) (cond b (frame ∷ []) [] ++ later))
    ≡ map (frame_text script) later
texts_left script true frame later = refl
texts_left script false frame later = refl

pub later_texts : (script : Script) (before : List Entry) (entry : Entry) (later : List Entry)
    → texts_after entry.kind (map (frame_text script) (tail (frame_step script.setup) before (entry ∷ later)))
    ≡ map (frame_text script) (tail (frame_step script.setup) (before ▹ entry) later)
later_texts script before entry later =
    texts_left script (is_finish entry.kind) (frame_at script.setup (suc (frames before)) (to_begin before))
    (tail (frame_step script.setup) (before ▹ entry) later)

answers_left : (entry : Entry) (n : ℕ) (hits : ℤ → ℤ → List Hit) (later : List HitAnswer) (asked : EntryKind)
    → answers_after asked (answer_to entry n hits asked ++ later) ≡ later
answers_left entry n hits later (kind.Hit x y) = refl
answers_left entry n hits later _ = refl

pub later_answers : (setup : Setup) (before : List Entry) (entry : Entry) (later : List Entry)
    → answers_after entry.kind (tail (answer_step setup) before (entry ∷ later)) ≡ tail (answer_step setup) (before ▹ entry) later
later_answers setup before entry later = answers_left entry (frames before) (hits_at setup (to_finished before))
    (tail (answer_step setup) (before ▹ entry) later) entry.kind

pub finished_one : (b : Bool) (n : ℕ) → n + cond b 1 0 ≡ cond b (suc n) n
finished_one true n = omega arith
finished_one false n = omega arith
