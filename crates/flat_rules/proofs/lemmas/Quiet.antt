-- What an entry leaves as it was.
use Rattle.std.proofs.Common.{◌≡◌, Bool, true, false, List, [], ◌∷◌, refl, add-zero, ℕ, nat_le}
use Rattle.std.proofs.lemmas.List.{append-nil}
use Rattle.std.specs.Prelude.{cond}
use Rattle.std.specs.List.{list_any}
use Rattle.flat_base.specs.declared.ids.FenceNo.{FenceNo}
use Rattle.flat_base.specs.declared.ids.SessionNo.{SessionNo}
use Rattle.flat_scene.specs.declared.calls.Call.{Call}
use Rattle.flat_scene.specs.declared.journal.Entry.{Entry}
use Rattle.flat_scene.specs.declared.journal.EntryKind.{EntryKind}
use Rattle.flat_scene.specs.declared.journal.EntryKind.TheVariants.{Begin}
use Rattle.flat_scene.specs.declared.setup.Setup.{Setup}
use Rattle.flat_scene.specs.History.{◌▹◌, own, is_begin, is_finish, is_closed, is_session, presents, published, published_all, closes, carried, Published}
use Rattle.flat_scene.specs.Frames.{taken, takes, lets_go, going, waiting, is_signalled}
use Rattle.flat_rules.specs.Posts.{frame_took}
use Rattle.flat_rules.specs.Legal.{is_frame_open, waited}
use Rattle.flat_scene.specs.declared.journal.Reply.TheVariants.{Met, Unmet}

any-skip : {A : Type 0} (f : A → Bool) (b : Bool) (x : A) (xs : List A) → f x ≡ false → list_any f (cond b (x ∷ xs) xs) ≡ list_any f xs
any-skip f true x xs h = rw h refl
any-skip f false x xs h = refl

pub closed-quiet : (h : List Entry) (e : Entry) (s : SessionNo) → closes e.reply ≡ false → is_closed s (h ▹ e) ≡ is_closed s h
closed-quiet h e s quiet = any-skip (λ entry. closes entry.reply) (is_session s e.actor) e (own s h) quiet

publish-skip : (b : Bool) (e : Entry) (xs : List Entry) → ((made : List Call) → published e.kind e.reply made ≡ [])
    → published_all (cond b (e ∷ xs) xs) ≡ published_all xs
publish-skip true e xs none = rw (none (carried (xs ▹ e))) (append-nil _)
publish-skip false e xs none = refl

-- an entry that publishes nothing adds no present
pub presents-quiet : (h : List Entry) (e : Entry) (s : SessionNo) → ((made : List Call) → published e.kind e.reply made ≡ [])
    → presents s (h ▹ e) ≡ presents s h
presents-quiet h e s none = publish-skip (is_session s e.actor) e (own s h) none

pub takes-none : (kind : EntryKind) (signalled : FenceNo → Bool) (closed : Bool) (w : List Published) → is_begin kind ≡ false
    → takes kind signalled closed w ≡ []
takes-none (Begin time) signalled closed w no_begin = cc
takes-none kind signalled closed w no_begin = refl

pub taken-quiet : (setup : Setup) (h : List Entry) (e : Entry) (s : SessionNo) → is_begin e.kind ≡ false → taken setup (h ▹ e) s ≡ taken setup h s
taken-quiet setup h e s no_begin = rw (takes-none e.kind (is_signalled setup h) (is_closed s h) (waiting setup h s) no_begin) (add-zero _)

going-stays : (kind : EntryKind) (signalled : FenceNo → Bool) (closed : Bool) (w g : List Published) → is_begin kind ≡ false
    → lets_go kind signalled closed w g ≡ g
going-stays (Begin time) signalled closed w g no_begin = cc
going-stays kind signalled closed w g no_begin = refl

pub going-quiet : (setup : Setup) (h : List Entry) (e : Entry) (s : SessionNo) → is_begin e.kind ≡ false → going setup (h ▹ e) s ≡ going setup h s
going-quiet setup h e s no_begin = going-stays e.kind (is_signalled setup h) (is_closed s h) (waiting setup h s) (going setup h s) no_begin

pub took-quiet : (setup : Setup) (h : List Entry) (e : Entry) (s : SessionNo) → is_begin e.kind ≡ false → is_finish e.kind ≡ false
    → cond (is_frame_open (h ▹ e)) (frame_took setup (h ▹ e) s) 0 ≡ cond (is_frame_open h) (frame_took setup h s) 0
took-quiet setup h e s no_begin no_finish = rw (no_begin, no_finish) refl

closes-met : (met : Bool) (v : ℕ) → closes (cond met (Met v) (Unmet v)) ≡ false
closes-met true v = refl
closes-met false v = refl

pub closes-waited : (wanted v : ℕ) → closes (waited wanted v) ≡ false
closes-waited wanted v = closes-met (nat_le wanted v) v
