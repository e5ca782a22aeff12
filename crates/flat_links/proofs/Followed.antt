-- What an entry does to what is kept of a session for the ends that it owns.
use Rattle.std.proofs.Common.{◌≡◌, ◌∙◌, sym, ℕ, ◌+◌, Bool, true, false, List, ◌++◌, length, refl, ap, Some, length-append}
use Rattle.std.specs.Prelude.{Option}
use Rattle.flat_base.specs.declared.ids.PairNo.{PairNo}
use Rattle.flat_base.specs.declared.ids.SessionNo.{SessionNo}
use Rattle.flat_scene.specs.declared.calls.Call.{Call}
use Rattle.flat_scene.specs.declared.journal.Entry.{Entry}
use Rattle.flat_scene.specs.declared.setup.Setup.{Setup}
use Rattle.flat_scene.specs.History.{◌▹◌, own, calls, is_begin, is_closed, is_finish, is_session, presents}
use Rattle.flat_links.specs.declared.session_links.SessionLinks.{SessionLinks}
use Rattle.flat_rules.specs.Ends.{to_begin, to_finished}
use Rattle.flat_facts.specs.Contents.{capped}
use Rattle.flat_links.specs.SessionLinks.{AreSessionLinks, seen_by_begin}
use Rattle.flat_rules.specs.Serials.{contents_made}
use Rattle.flat_links.specs.Hearing.{is_within}
use Rattle.flat_links.proofs.Risen.{losing-stays}
use Rattle.flat_links.proofs.lemmas.PairIdle.{shut-stays}
use Rattle.flat_facts.proofs.lemmas.Serials.{contents-append}
use Rattle.flat_rules.proofs.lemmas.ShownSteps.{closed-before}

module _ (setup : Setup) (s : SessionNo) (h : List Entry) (e : Entry) where
  begin-same : is_begin e.kind ≡ false → to_begin (h ▹ e) ≡ to_begin h
  begin-same no_begin = rw no_begin refl

  finished-same : is_finish e.kind ≡ false → to_finished (h ▹ e) ≡ to_finished h
  finished-same no_finish = rw no_finish refl

  before-open : is_closed s (h ▹ e) ≡ false → is_closed s h ≡ false
  before-open opened = closed-before (is_session s e.actor) e (own s h) opened

  contents-own : is_session s e.actor ≡ true → length (contents_made (calls s (h ▹ e))) ≡ length (contents_made (calls s h)) + length (contents_made e.calls)
  contents-own mine =
      let all : calls s (h ▹ e) ≡ calls s h ++ e.calls = rw mine refl in
      ap (λ (cs : List Call). length (contents_made cs)) all ∙ ap (length {A = Option PairNo}) (contents-append (calls s h) e.calls)
      ∙ length-append (contents_made (calls s h)) (contents_made e.calls)

  -- its own entry, of no frame
  pub followed-own : is_session s e.actor ≡ true → is_begin e.kind ≡ false → is_finish e.kind ≡ false → (carries : List Call) → e.calls ≡ carries
      → (state new : SessionLinks)
      → ((n : ℕ) → state.contents ≡ capped n → new.contents ≡ capped (n + length (contents_made carries)))
      → is_within new.losing (Some (length (presents s h))) ≡ true → new.begun ≡ state.begun → new.finished ≡ state.finished → AreSessionLinks setup h s state
      → AreSessionLinks setup (h ▹ e) s new
  followed-own mine no_begin no_finish carries carried state new contents losing begun finished old = record {
    losing = losing-stays s h e new.losing losing;
    contents = λ o.
        contents (length (contents_made (calls s h))) (old.contents (before-open o))
        ∙ ap (λ (cs : List Call). capped (length (contents_made (calls s h)) + length (contents_made cs))) (sym carried)
        ∙ ap capped (sym (contents-own mine));
    begun = begun ∙ old.begun ∙ ap (λ (k : List Entry). seen_by_begin setup k s) (sym (begin-same no_begin));
    finished = finished ∙ old.finished ∙ ap (λ (k : List Entry). seen_by_begin setup k s) (sym (finished-same no_finish));
  }

  -- another's, and its own once it was closed: the calls that count stay
  pub followed-still : (is_session s e.actor ≡ true → is_closed s h ≡ true) → (state new : SessionLinks) → new.contents ≡ state.contents
      → new.losing ≡ state.losing
      → new.begun ≡ seen_by_begin setup (to_begin (h ▹ e)) s → new.finished ≡ seen_by_begin setup (to_finished (h ▹ e)) s → AreSessionLinks setup h s state
      → AreSessionLinks setup (h ▹ e) s new
  followed-still shut state new contents losing begun finished old = record {
    losing = rw losing (losing-stays s h e state.losing old.losing);
    contents = λ o. contents ∙ old.contents (before-open o) ∙ ap (λ (cs : List Call). capped (length (contents_made cs))) (sym (same o));
    begun = begun;
    finished = finished;
  }
    where
      same : is_closed s (h ▹ e) ≡ false → calls s (h ▹ e) ≡ calls s h
      same o = by_actor (is_session s e.actor) refl
        where
          by_actor : (b : Bool) → is_session s e.actor ≡ b → calls s (h ▹ e) ≡ calls s h
          by_actor false other = rw other refl
          by_actor true mine = let wrong : true ≡ false = sym (shut-stays s h e (shut mine)) ∙ o in cc

  pub followed-idle : (is_session s e.actor ≡ true → is_closed s h ≡ true) → is_begin e.kind ≡ false → is_finish e.kind ≡ false → (state : SessionLinks)
      → AreSessionLinks setup h s state → AreSessionLinks setup (h ▹ e) s state
  followed-idle shut no_begin no_finish state old =
      followed-still shut state state refl refl (old.begun ∙ ap (λ (k : List Entry). seen_by_begin setup k s) (sym (begin-same no_begin)))
      (old.finished ∙ ap (λ (k : List Entry). seen_by_begin setup k s) (sym (finished-same no_finish))) old
