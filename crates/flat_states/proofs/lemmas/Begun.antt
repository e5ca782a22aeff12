-- What a begin changes of what is kept of a session.
use Rattle.std.proofs.Common.{◌≡◌, ℕ, zero, suc, ◌+◌, ◌-◌, ◌≤◌, Bool, true, false, List, [], ◌∷◌, length, refl, arith, sym, ◌∙◌, ap, map, take, drop}
use Rattle.std.proofs.Common.{length-drop, add-zero}
use Rattle.std.proofs.Math.Seq.{take-append_seam}
use Rattle.std.proofs.lemmas.List.{drop-drop, length-map, length-take}
use Rattle.std.proofs.lemmas.List.Sums.{take_while-cons}
use Rattle.std.proofs.lemmas.List.Elements.{All-map, All-take, All-drop}
use Rattle.std.specs.Prelude.{vec_capacity}
use Rattle.std.specs.Prelude.{cond}
use Rattle.std.specs.List.{take_while}
use Rattle.std.specs.declared.sync.Arc.{Arc}
use Rattle.std.specs.declared.alloc.Global.{Global}
use Rattle.flat_base.specs.declared.ids.FenceNo.{FenceNo}
use Rattle.flat_base.specs.declared.ids.SessionNo.{SessionNo}
use Rattle.flat_scene.specs.declared.journal.Entry.{Entry}
use Rattle.flat_scene.specs.declared.setup.Setup.{Setup}
use Rattle.flat_scene.specs.History.{is_closed, presents, Published}
use Rattle.flat_scene.specs.Frames.{is_signalled, taken, waiting, up_to_first, ready_prefix}
use Rattle.flat_queue.specs.declared.queue.WaitingPresent.{WaitingPresent}
use Rattle.flat_scene.specs.Frames.{is_ready}
use Rattle.flat_snap.specs.declared.snapshot.Snapshot.{Snapshot}
use Rattle.flat_states.specs.declared.state.SessionState.{SessionState}
use Rattle.flat_facts.specs.Begins.{begun}
use Rattle.flat_states.specs.Kept.{IsKept, Below, kept_of, meant, release_of}
use Rattle.flat_states.specs.Presents.{LetGo, frame_takes}
use Rattle.flat_states.specs.Seen.{Seen, seen_of}
use Rattle.flat_rules.proofs.lemmas.ListLemmas.{All-none}
use Rattle.flat_scene.proofs.lemmas.TakingLemmas.{taken-up-to}

-- of a closed session nothing is taken, and all that waits goes
pub seen-begun-closed : (setup : Setup) (h : List Entry) (line time : ℕ) (s : SessionNo) → is_closed s h ≡ true
    → seen_of setup (begun h line time) s ≡ record (seen_of setup h s) { going = waiting setup h s; took = 0 }
seen-begun-closed setup h line time s closed = let none : taken setup h s - taken setup h s ≡ 0 = omega arith in rw (closed, add-zero, none) refl

-- of an open one what is ready is taken, up to an unsquashable one, and goes
pub seen-begun-open : (setup : Setup) (h : List Entry) (line time : ℕ) (s : SessionNo) (ready : List Published) → is_closed s h ≡ false
    → ready ≡ ready_prefix time (is_signalled setup h) (waiting setup h s)
    → seen_of setup (begun h line time) s
    ≡ record (seen_of setup h s) {
      taken = taken setup h s + length ready;
      waiting = drop (length ready) (waiting setup h s);
      going = ready;
      took = length ready;
    }
seen-begun-open setup h line time s ready opened is =
    let took : taken setup h s + length ready - taken setup h s ≡ length ready = omega arith in
    rw (opened, ← is) (rw (took, ← drop-drop (length ready) (taken setup h s) (presents s h)) refl)

-- ---- two lists that stand for the same

-- what is taken while a test holds, and up to the first item that ends it
abbrev pub taken_up : {A : Type 0} → (A → Bool) → (A → Bool) → List A → List A
taken_up ends p xs = up_to_first ends (take_while p xs)

-- it is the front of the list
pub front : {A : Type 0} (ends p : A → Bool) (xs : List A) → take (length (taken_up ends p xs)) xs ≡ taken_up ends p xs
front ends p xs =
    let prefix = taken_up ends p xs in
    ap (take (length prefix)) (taken-up-to ends p xs).begins ∙ take-append_seam prefix (drop (length prefix) xs)

while-map : {A B : Type 0} (p : B → Bool) (f : A → B) (xs : List A) → map f (take_while (λ x. p (f x)) xs) ≡ take_while p (map f xs)
while-map p f [] = refl
while-map {A} p f (x ∷ xs) = rw (take_while-cons (λ y. p (f y)) x xs, take_while-cons p (f x) (map f xs)) (by_test (while-map p f xs) (p (f x)))
  where
    by_test : map f (take_while (λ y. p (f y)) xs) ≡ take_while p (map f xs) → (b : Bool)
        → map f (cond b (x ∷ take_while (λ y. p (f y)) xs) []) ≡ cond b (f x ∷ take_while p (map f xs)) []
    by_test rest true = ap (λ ys. f x ∷ ys) rest
    by_test rest false = refl

up-map : {A B : Type 0} (ends : B → Bool) (f : A → B) (xs : List A) → map f (up_to_first (λ x. ends (f x)) xs) ≡ up_to_first ends (map f xs)
up-map ends f [] = refl
up-map ends f (x ∷ xs) = by_test (up-map ends f xs) (ends (f x))
  where
    by_test : map f (up_to_first (λ y. ends (f y)) xs) ≡ up_to_first ends (map f xs) → (b : Bool)
        → f x ∷ map f (cond b [] (up_to_first (λ y. ends (f y)) xs)) ≡ f x ∷ cond b [] (up_to_first ends (map f xs))
    by_test rest true = refl
    by_test rest false = ap (λ ys. f x ∷ ys) rest

taken-map : {A B : Type 0} (ends p : B → Bool) (f : A → B) (xs : List A) → map f (taken_up (λ x. ends (f x)) (λ x. p (f x)) xs) ≡ taken_up ends p (map f xs)
taken-map ends p f xs = up-map ends f (take_while (λ x. p (f x)) xs) ∙ ap (up_to_first ends) (while-map p f xs)

-- as much of both
taken-same : {A B C : Type 0} (ends p : C → Bool) (f : A → C) (g : B → C) (xs : List A) (ys : List B) → map f xs ≡ map g ys
    → length (taken_up (λ x. ends (f x)) (λ x. p (f x)) xs) ≡ length (taken_up (λ y. ends (g y)) (λ y. p (g y)) ys)
taken-same ends p f g xs ys same =
    sym (length-map (taken_up (λ x. ends (f x)) (λ x. p (f x)) xs) f)
    ∙ ap length (taken-map ends p f xs ∙ ap (taken_up ends p) same ∙ sym (taken-map ends p g ys))
    ∙ length-map (taken_up (λ y. ends (g y)) (λ y. p (g y)) ys) g

map-take : {A B : Type 0} (f : A → B) (n : ℕ) (xs : List A) → map f (take n xs) ≡ take n (map f xs)
map-take f zero xs = refl
map-take f (suc n) [] = refl
map-take f (suc n) (x ∷ xs) = rw (map-take f n xs) refl

map-drop : {A B : Type 0} (f : A → B) (n : ℕ) (xs : List A) → map f (drop n xs) ≡ drop n (map f xs)
map-drop f zero xs = refl
map-drop f (suc n) [] = refl
map-drop f (suc n) (x ∷ xs) = map-drop f n xs

map-then : {A B C : Type 0} (g : B → C) (f : A → B) (xs : List A) → map (λ x. g (f x)) xs ≡ map g (map f xs)
map-then g f [] = refl
map-then g f (x ∷ xs) = rw (map-then g f xs) refl

pub take-same : {A B C : Type 0} (f : A → C) (g : B → C) (n : ℕ) (xs : List A) (ys : List B) → map f xs ≡ map g ys → map f (take n xs) ≡ map g (take n ys)
take-same f g n xs ys same = map-take f n xs ∙ ap (take n) same ∙ sym (map-take g n ys)

pub drop-same : {A B C : Type 0} (f : A → C) (g : B → C) (n : ℕ) (xs : List A) (ys : List B) → map f xs ≡ map g ys → map f (drop n xs) ≡ map g (drop n ys)
drop-same f g n xs ys same = map-drop f n xs ∙ ap (drop n) same ∙ sym (map-drop g n ys)

pub then-same : {A B C D : Type 0} (r : C → D) (f : A → C) (g : B → C) (xs : List A) (ys : List B) → map f xs ≡ map g ys
    → map (λ x. r (f x)) xs ≡ map (λ y. r (g y)) ys
then-same r f g xs ys same = map-then r f xs ∙ ap (map r) same ∙ sym (map-then r g ys)

-- as many are taken of both
pub takes-same : (setup : Setup) (time : ℕ) (has_it signalled : FenceNo → Bool) (waits : List (WaitingPresent (Arc Snapshot Global))) (stands : List Published)
    → ((f : FenceNo) → has_it f ≡ signalled f)
    → map kept_of waits ≡ map (meant setup) stands
    → length (frame_takes time has_it waits) ≡ length (ready_prefix time signalled stands)
takes-same setup time has_it signalled waits stands fences same =
    (λ i. length (frame_takes time (λ f. fences f i) waits))
    ∙ taken-same (λ pair. pair.0.unsquashable) (λ pair. is_ready time signalled pair.0) kept_of (meant setup) waits stands same

-- ---- what is kept stands for that

pub kept-gone : (setup : Setup) (seen : Seen) (state : SessionState) → IsKept setup seen state → state.let_go ≡ true
    → IsKept setup (record seen { going = seen.waiting; took = 0 }) (record state { took = 0 })
kept-gone setup seen state kept gone = record {
  closed = kept.closed;
  account = kept.account;
  count = kept.count;
  few = kept.few;
  taken = kept.taken;
  waiting = kept.waiting;
  let_go = λ is. ((kept.let_go is).0, (kept.let_go is).1, refl);
  acquire = kept.acquire;
  release = kept.release;
  going = kept.going ∙ ap (map release_of) (kept.let_go gone).2;
  going_below = kept.going_below;
  took = refl;
  goes = kept.goes;
  room = kept.room;
}

pub kept-let_go : (setup : Setup) (seen : Seen) (state new : SessionState) → IsKept setup seen state → state.let_go ≡ false → state.closed ≡ true
    → LetGo state new
    → IsKept setup (record seen { going = seen.waiting; took = 0 }) new
kept-let_go setup seen state new kept stays closed gone = record {
  closed = gone.closed ∙ kept.closed;
  account = gone.account ∙ kept.account;
  count = rw gone.waiting (omega (arith, gone.taken, kept.count));
  few = rw gone.waiting (omega arith);
  taken = λ no. let wrong : true ≡ false = sym gone.let_go ∙ no in cc;
  waiting = λ no. let wrong : true ≡ false = sym gone.let_go ∙ no in cc;
  let_go = λ is. (sym kept.closed ∙ closed, gone.waiting, refl);
  acquire = All-none (λ kept. Below (length setup.fences) kept.args.acquire) new.queue.waiting gone.waiting;
  release = All-none (λ kept. Below (length setup.fences) kept.args.release) new.queue.waiting gone.waiting;
  going = gone.going ∙ then-same (λ pair. pair.0.release) kept_of (meant setup) state.queue.waiting seen.waiting (kept.waiting stays);
  going_below = rw gone.going (All-map (Below (length setup.fences)) (λ kept. kept.args.release) state.queue.waiting kept.release);
  took = gone.took;
  goes = rw gone.going (rw length-map kept.few);
  room = rw gone.room kept.room;
}

pub kept-ready : (setup : Setup) (seen : Seen) (state new : SessionState) (n : ℕ) → IsKept setup seen state → state.let_go ≡ false
    → n ≤ length state.queue.waiting
    → new.took ≡ n → new.queue.taken ≡ state.queue.taken + new.took → new.queue.waiting ≡ drop new.took state.queue.waiting
    → new.going.items ≡ map (λ kept. kept.args.release) (take n state.queue.waiting)
    → vec_capacity new.going ≡ vec_capacity state.going → new.closed ≡ state.closed → new.let_go ≡ state.let_go → new.account ≡ state.account
    → IsKept setup (record seen { taken = seen.taken + n; waiting = drop n seen.waiting; going = take n seen.waiting; took = n }) new
kept-ready setup seen state new n kept stays fits took taken waiting going room closes gone account = record {
  closed = closes ∙ kept.closed;
  account = account ∙ kept.account;
  count = rw (waiting, took) (omega (arith, taken, took, kept.count, length-drop n state.queue.waiting));
  few = rw (waiting, took) (omega (arith, kept.few, length-drop n state.queue.waiting));
  taken = λ is. rw (taken, took, kept.taken stays) refl;
  waiting = λ is. rw (waiting, took) (drop-same kept_of (meant setup) n state.queue.waiting seen.waiting (kept.waiting stays));
  let_go = λ is. let wrong : true ≡ false = sym is ∙ gone ∙ stays in cc;
  acquire = rw (waiting, took) (All-drop (λ kept. Below (length setup.fences) kept.args.acquire) n state.queue.waiting kept.acquire);
  release = rw (waiting, took) (All-drop (λ kept. Below (length setup.fences) kept.args.release) n state.queue.waiting kept.release);
  going = going ∙ then-same (λ pair. pair.0.release) kept_of (meant setup) (take n state.queue.waiting) (take n seen.waiting)
      (take-same kept_of (meant setup) n state.queue.waiting seen.waiting (kept.waiting stays));
  going_below = rw going (All-map (Below (length setup.fences)) (λ kept. kept.args.release) (take n state.queue.waiting)
      (All-take (λ kept. Below (length setup.fences) kept.args.release) n state.queue.waiting kept.release));
  took = took;
  goes = rw going (rw length-map (omega (arith, kept.few, length-take n state.queue.waiting)));
  room = rw room kept.room;
}
