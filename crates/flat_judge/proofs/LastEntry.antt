-- What a run keeps of its last entry, and the text of that entry.
use Rattle.std.proofs.Common.{◌≡◌, ℕ, ℤ, suc, ◌+◌, ◌-◌, ◌≤◌, true, false, cond, List, [], ◌∷◌, ◌++◌, length, drop, map, reverse, slice_get}
use Rattle.std.proofs.Common.{Some, refl, sym, ap, ◌∙◌, arith, length-append}
use Rattle.flat_scene.specs.declared.frames.Hit.{Hit}
use Rattle.flat_scene.specs.declared.journal.Entry.{Entry}
use Rattle.flat_scene.specs.declared.journal.EntryKind.{EntryKind}
use Rattle.flat_scene.specs.declared.journal.EntryKind.TheVariants as kind
use Rattle.flat_scene.specs.declared.journal.PostedEvent.{PostedEvent}
use Rattle.flat_scene.specs.declared.journal.Reply.{Reply}
use Rattle.flat_scene.specs.declared.setup.Setup.{Setup}
use Rattle.flat_scene.specs.History.{◌▹◌, is_finish}
use Rattle.flat_scene.specs.Journals.{history_of}
use Rattle.std.proofs.lemmas.List.{map-append, reverse-append, reverse-reverse}
use Rattle.flat_base.specs.Last.{last_item}
use Rattle.flat_rules.specs.Ends.{to_begin, to_finished}
use Rattle.flat_rules.specs.Legal.{frames}
use Rattle.flat_rules.specs.Posts.{Sent, posted}
use Rattle.flat_rules.specs.AllPosts.{posts}
use Rattle.flat_places.specs.declared.script.Script.{Script}
use Rattle.flat_page.specs.Words.{number, text_of, actor_name}
use Rattle.flat_places.specs.Forms.{Word}
use Rattle.flat_lines.specs.EntryLines.{entry_line, event_line, point_words, said_words}
use Rattle.flat_lines.specs.PostLines.{post_line}
use Rattle.flat_report.specs.FrameTexts.{frame_text}
use Rattle.flat_report.specs.Report.{finished, frame_at, hits_at}
use Rattle.std.proofs.Math.Seq.{drop-append_seam}
use Rattle.flat_page.proofs.lemmas.LastItems.{last-more}
use Rattle.flat_judge.specs.Following.{events_text, own_text}
use Rattle.flat_judge.proofs.Along.{frames-one}

-- ---- its line

-- how many frames were finished before it
pub before-finish : (before : List Entry) (entry : Entry) → is_finish entry.kind ≡ true → (many : ℕ) → many ≡ frames (before ▹ entry)
    → many ≡ suc (frames before)
before-finish before entry finish many is = is ∙ frames-one before entry ∙ ap (λ b. cond b (suc (frames before)) (frames before)) finish

pub before-other : (before : List Entry) (entry : Entry) → is_finish entry.kind ≡ false → (many : ℕ) → many ≡ frames (before ▹ entry) → many ≡ frames before
before-other before entry other many is = is ∙ frames-one before entry ∙ ap (λ b. cond b (suc (frames before)) (frames before)) other

-- only an entry that asks for a point says hits
said : (script : Script) (n line : ℕ) (asked : EntryKind) (answer : Reply) (hits : ℤ → ℤ → List Hit) (some : List Hit)
    → ((x y : ℤ) → asked ≡ kind.Hit x y → some ≡ hits x y)
    → said_words script n (λ x y. some) line asked answer ≡ said_words script n hits line asked answer
said script n line (kind.Hit x y) answer hits some same = ap (λ hs. number line ∷ point_words script x y n hs) (same x y refl)
said script n line _ answer hits some same = refl

pub line-is : (script : Script) (before : List Entry) (entry : Entry) (n : ℕ) (some : List Hit) → n ≡ frames before
    → ((x y : ℤ) → entry.kind ≡ kind.Hit x y → some ≡ hits_at script.setup (to_finished before) x y)
    → text_of (entry_line script n (λ x y. some) entry ∷ []) ≡ own_text script before entry
line-is script before entry n some many same =
    ap (λ (m : ℕ). text_of (entry_line script m (λ x y. some) entry ∷ [])) many
    ∙ ap (λ (ws : List Word). text_of ((actor_name script entry.actor ∷ ws) ∷ []))
    (said script (frames before) entry.line entry.kind entry.reply (hits_at script.setup (to_finished before)) some same)

-- ---- its frame

pub frame-last : (setup : Setup) (before : List Entry) (entry : Entry) → is_finish entry.kind ≡ true
    → last_item (finished setup (before ▹ entry)) ≡ Some (frame_at setup (suc (frames before)) (to_begin before))
frame-last setup before entry finish =
    ap (λ b. last_item (finished setup before ++ cond b (frame_at setup (suc (frames before)) (to_begin before) ∷ []) [])) finish
    ∙ last-more (finished setup before) (frame_at setup (suc (frames before)) (to_begin before))

pub text-last : (script : Script) (before : List Entry) (entry : Entry) → is_finish entry.kind ≡ true
    → last_item (map (frame_text script) (finished script.setup (before ▹ entry)))
    ≡ Some (frame_text script (frame_at script.setup (suc (frames before)) (to_begin before)))
text-last script before entry finish =
    let frame = frame_at script.setup (suc (frames before)) (to_begin before) in
    ap (λ b. last_item (map (frame_text script) (finished script.setup before ++ cond b (frame ∷ []) []))) finish
    ∙ ap last_item (map-append (frame_text script) (finished script.setup before) (frame ∷ []))
    ∙ last-more (map (frame_text script) (finished script.setup before)) (frame_text script frame)

-- ---- its events

lines-are : (script : Script) (n : ℕ) (sent : List Sent)
    → map (post_line script) (map (λ (one : Sent). let p : PostedEvent = record { entry = n; session = one.to; event = one.event } in p) sent)
    ≡ map (λ one. event_line script one.to one.event) sent
lines-are script n [] = refl
lines-are script n (one ∷ sent) = ap (λ t. event_line script one.to one.event ∷ t) (lines-are script n sent)

pub events-are : (script : Script) (before : List Entry) (entry : Entry) (all : List PostedEvent) (many : ℕ) → all ≡ posts script.setup (before ▹ entry)
    → many ≡ length (posts script.setup before)
    → text_of (map (post_line script) (drop many all)) ≡ events_text script before entry
events-are script before entry all many is count =
    (λ i. text_of (map (post_line script) (drop (count i) (is i))))
    ∙ ap (λ (ps : List PostedEvent). text_of (map (post_line script) ps))
    (drop-append_seam (posts script.setup before) (map
    (λ (one : Sent). let p : PostedEvent = record { entry = length before; session = one.to; event = one.event } in p) (posted script.setup before entry)))
    ∙ ap text_of (lines-are script (length before) (posted script.setup before entry))

pub events-within : (setup : Setup) (before : List Entry) (entry : Entry) (all : List PostedEvent) (many : ℕ) → all ≡ posts setup (before ▹ entry)
    → many ≡ length (posts setup before) → many ≤ length all
events-within setup before entry all many is count =
    let long : length all ≡ length (posts setup before) + length
    (map (λ (one : Sent). let p : PostedEvent = record { entry = length before; session = one.to; event = one.event } in p) (posted setup before entry)) =
    ap length is ∙ length-append (posts setup before) _ in
    omega (arith, long, count)

-- it is the newest of a journal
pub newest-is : (entries : List Entry) (before : List Entry) (entry : Entry) → history_of entries ≡ (before ▹ entry)
    → slice_get entries (length entries - 1) ≡ Some entry
newest-is entries before entry is =
    let all : entries ≡ reverse before ++ entry ∷ [] = sym (reverse-reverse entries) ∙ ap reverse is ∙ reverse-append (entry ∷ []) before in
    ap last_item all ∙ last-more (reverse before) entry
