-- What a present changes.
use Rattle.std.proofs.Common.{◌≡◌, ℕ, ◌+◌, ◌<◌, ◌≤◌, Bool, true, false, List, [], ◌∷◌, ◌++◌, length, refl, arith, sym, ◌∙◌, ap, map, length-append, Some}
use Rattle.std.specs.Prelude.{cond}
use Rattle.std.specs.Arc.{arc_value}
use Rattle.std.specs.declared.sync.Arc.{Arc}
use Rattle.std.specs.declared.alloc.Global.{Global}
use Rattle.std.proofs.lemmas.List.{map-append, drop-append-le}
use Rattle.flat_base.specs.declared.ids.Actor.TheVariants.{Session}
use Rattle.flat_base.specs.declared.ids.SessionNo.{SessionNo}
use Rattle.flat_scene.specs.declared.calls.Call.{Call}
use Rattle.flat_scene.specs.declared.calls.PresentArgs.{PresentArgs}
use Rattle.flat_scene.specs.declared.journal.Entry.{Entry}
use Rattle.flat_scene.specs.declared.journal.EntryKind.{EntryKind}
use Rattle.flat_scene.specs.declared.journal.EntryKind.TheVariants.{Present}
use Rattle.flat_scene.specs.declared.journal.Reply.{Reply}
use Rattle.flat_scene.specs.declared.journal.Reply.TheVariants.{Presented}
use Rattle.flat_scene.specs.declared.setup.Setup.{Setup}
use Rattle.flat_scene.specs.History.{◌▹◌, own, is_session, presents, published, published_all, carried, Published}
use Rattle.flat_scene.specs.Frames.{taken, waiting}
use Rattle.flat_rules.specs.Shown.{tree_of}
use Rattle.flat_queue.specs.declared.queue.WaitingPresent.{WaitingPresent}
use Rattle.flat_snap.specs.declared.snapshot.Snapshot.{Snapshot}
use Rattle.flat_states.specs.declared.state.SessionState.{SessionState}
use Rattle.flat_facts.specs.Begins.{entry_of}
use Rattle.flat_states.specs.Machines.{present_of}
use Rattle.flat_states.specs.Kept.{IsKept, Below, kept_of, meant}
use Rattle.flat_states.proofs.lemmas.Heard.{with_present}
use Rattle.flat_states.specs.Seen.{Seen, seen_of, account_of}
use Rattle.std.proofs.lemmas.List.Elements.{All-push}
use Rattle.flat_rules.proofs.lemmas.Quiet.{taken-quiet}
use Rattle.flat_states.proofs.lemmas.Changes.{is-session}
use Rattle.flat_scene.proofs.lemmas.TakingLemmas.{taken-made}

published-one : (kind : EntryKind) (reply : Reply) (made : List Call) → length (published kind reply made) ≤ 1
published-one (Present args) (Presented n k) made = omega arith
published-one kind reply made = omega arith

-- no more presents than entries
own-publishes : (b : Bool) (e : Entry) (xs : List Entry) → length (published_all (cond b (e ∷ xs) xs)) ≤ length (published_all xs) + 1
own-publishes true e xs = omega (arith, length-append {A = Published}, published-one e.kind e.reply (carried xs ++ e.calls))
own-publishes false e xs = omega arith

pub presents-few : (s : SessionNo) (h : List Entry) → length (presents s h) ≤ length h
presents-few s [] = omega arith
presents-few s (h ▹ e) = omega (arith, presents-few s h, own-publishes (is_session s e.actor) e (own s h))

-- an accepted present joins those that wait
pub seen-presented : (setup : Setup) (h : List Entry) (s : SessionNo) (line : ℕ) (carries : List Call) (args : PresentArgs) (n k : ℕ)
    → seen_of setup (h ▹ entry_of (Session s) line carries (Present args) (Presented n k)) s
    ≡ record (seen_of setup h s) {
      waiting = waiting setup h s ++ present_of h s carries args ∷ [];
      account = record (account_of setup h s) { presents = length (presents s h) + 1 };
    }
seen-presented setup h s line carries args n k =
    rw (taken-quiet setup h (entry_of (Session s) line carries (Present args) (Presented n k)) s refl, is-session s)
    (rw (drop-append-le (taken setup h s) (presents s h) (present_of h s carries args ∷ []) (taken-made setup s h), length-append) refl)

joined : {A B C : Type 0} (f : A → C) (g : B → C) (xs : List A) (ys : List B) (x : A) (y : B) → map f xs ≡ map g ys → f x ≡ g y
    → map f (xs ++ x ∷ []) ≡ map g (ys ++ y ∷ [])
joined f g xs ys x y all one = rw (map-append, map-append, all, one) refl

pub kept-presented : (setup : Setup) (seen : Seen) (state : SessionState) (snap : Arc Snapshot Global) (args : PresentArgs) (present : Published)
    → IsKept setup seen state → state.let_go ≡ false → length state.queue.waiting < 5
    → present.args ≡ args → Some (arc_value snap) ≡ tree_of setup present → Below (length setup.fences) args.acquire → Below (length setup.fences) args.release
    → IsKept setup (record seen { waiting = seen.waiting ++ present ∷ []; account = record seen.account { presents = seen.account.presents + 1 } })
    (with_present state snap args)
kept-presented setup seen state snap args present kept stays few same tree acquire release = record {
  closed = kept.closed;
  account = rw (kept.account, ap (λ (n : ℕ). n + 1) kept.count) refl;
  count = omega (arith, kept.count, length-append {A = WaitingPresent (Arc Snapshot Global)});
  few = omega (arith, few, length-append {A = WaitingPresent (Arc Snapshot Global)});
  taken = kept.taken;
  waiting = λ gone. joined kept_of (meant setup) state.queue.waiting seen.waiting (record { item = snap; args = args }) present (kept.waiting gone)
      (rw (same, ← tree) refl);
  let_go = λ gone. let no : true ≡ false = sym gone ∙ stays in cc;
  acquire = All-push (λ kept. Below (length setup.fences) kept.args.acquire) state.queue.waiting (record { item = snap; args = args }) kept.acquire acquire;
  release = All-push (λ kept. Below (length setup.fences) kept.args.release) state.queue.waiting (record { item = snap; args = args }) kept.release release;
  going = kept.going;
  going_below = kept.going_below;
  took = kept.took;
  goes = kept.goes;
  room = kept.room;
}
