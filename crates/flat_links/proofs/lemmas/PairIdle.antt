-- An entry that is none of a session that was open leaves what is kept of pairs as it is.
use Rattle.std.proofs.Common.{◌≡◌, ◌∙◌, sym, subst, ℕ, ◌<◌, ◌≤◌, Bool, true, false, List, [], ◌∷◌, ◌++◌, length, refl, ap, Some}
use Rattle.std.specs.Prelude.{Option, cond, not, ◌&&◌, ◌||◌}
use Rattle.std.specs.List.{list_any}
use Rattle.std.proofs.lemmas.List.{append-nil}
use Rattle.flat_base.specs.declared.ids.Actor.TheVariants.{Session}
use Rattle.flat_base.specs.declared.ids.PairNo.{PairNo}
use Rattle.flat_base.specs.declared.ids.SessionNo.{SessionNo}
use Rattle.flat_scene.specs.declared.calls.Call.{Call}
use Rattle.flat_scene.specs.declared.journal.Entry.{Entry}
use Rattle.flat_scene.specs.declared.journal.EntryKind.{EntryKind}
use Rattle.flat_scene.specs.declared.journal.EntryKind.TheVariants.{End}
use Rattle.flat_scene.specs.declared.journal.Reply.{Reply}
use Rattle.flat_scene.specs.declared.setup.Setup.{Setup}
use Rattle.flat_scene.specs.History.{◌▹◌, own, calls, closes, is_begin, is_closed, is_end, is_finish, is_session, presents, published, Published}
use Rattle.flat_scene.proofs.lemmas.Steps.{presents-own}
use Rattle.flat_links.specs.declared.pairs.PairState.{PairState}
use Rattle.flat_rules.specs.Ends.{clears_viewport, ends_view, happens, is_done, uses_viewport, viewport_owner, viewport_uses}
use Rattle.flat_links.specs.SessionLinks.{IsPairKept, IsSerialKept, props_pending}
use Rattle.flat_rules.specs.Legal.{Legal, goes_on}
use Rattle.flat_rules.specs.Serials.{IsUseSerial}
use Rattle.flat_rules.specs.Stamps.{IsStamp, is_seen}
use Rattle.flat_rules.specs.Watch.{props_given, props_seen}
use Rattle.flat_links.proofs.lemmas.PairSteps.{owner-owns, pending-step}
use Rattle.flat_facts.proofs.lemmas.SerialSteps.{Has, serial-other}
use Rattle.flat_facts.proofs.lemmas.StampSteps.{other-stamp}
use Rattle.flat_facts.proofs.lemmas.Stamped.{IsLasting, happening-lasts}
use Rattle.flat_facts.proofs.lemmas.ViewHistory.{same-session}
use Rattle.flat_facts.proofs.lemmas.ViewLaw.{made_at}
use Rattle.std.proofs.lemmas.Bool.{or_right}

-- an entry that is none of a session that was open
abbrev pub IsShut : List Entry → Entry → Type 0
IsShut h e = (s : SessionNo) → is_session s e.actor ≡ true → is_closed s h ≡ true

pub an-end : (a b c : Bool) → (a && (b || not c)) ≡ true → c ≡ true → b ≡ true
an-end true true c h shut = refl
an-end true false true h shut = let wrong : false ≡ true = h in cc
an-end true false false h shut = let wrong : false ≡ true = shut in cc
an-end false b c h shut = let wrong : false ≡ true = h in cc

end-quiet : (kind : EntryKind) (reply : Reply) (made : List Call) → is_end kind ≡ true → published kind reply made ≡ []
end-quiet (End refused) reply made is = refl
end-quiet _ reply made is = cc

-- a closed session stays so, and presents nothing more
pub shut-stays : (s : SessionNo) (h : List Entry) (e : Entry) → is_closed s h ≡ true → is_closed s (h ▹ e) ≡ true
shut-stays s h e shut = by_owner (is_session s e.actor)
  where
    by_owner : (b : Bool) → list_any (λ entry. closes entry.reply) (cond b (e ∷ own s h) (own s h)) ≡ true
    by_owner true = or_right (closes e.reply) _ shut
    by_owner false = shut

pub shut-presents : (setup : Setup) (s : SessionNo) (h : List Entry) (e : Entry) → Legal setup (h ▹ e) → is_session s e.actor ≡ true → is_closed s h ≡ true
    → presents s (h ▹ e) ≡ presents s h
shut-presents setup s h e legal mine shut =
    let lasts : goes_on h e.kind (Session s) ≡ true = ap (goes_on h e.kind) (sym (same-session s e.actor mine)) ∙ legal.1.may.lasts in
    let ends : is_end e.kind ≡ true = an-end _ (is_end e.kind) (is_closed s h) lasts shut in
    presents-own s h e mine ∙ ap (λ (l : List Published). presents s h ++ l) (end-quiet e.kind e.reply (calls s h ++ e.calls) ends) ∙ append-nil (presents s h)

module _ (setup : Setup) (h : List Entry) (e : Entry) (legal : Legal setup (h ▹ e)) (shut : IsShut h e) where
  pub idle-stamp : (test : List Call → Bool) → IsLasting test → (s : SessionNo) (stamp : Option ℕ) → IsStamp test s h stamp → IsStamp test s (h ▹ e) stamp
  idle-stamp test lasting s stamp old = by_actor (is_session s e.actor) refl
    where
      by_actor : (b : Bool) → is_session s e.actor ≡ b → IsStamp test s (h ▹ e) stamp
      by_actor false other = other-stamp test lasting s h e stamp other old
      by_actor true mine =
          let P : List Published → Type 0 = λ ps. (n : ℕ) → n ≤ length ps → test (made_at ps n) ≡ is_seen stamp n in
          record {
            tells = subst P (sym (shut-presents setup s h e legal mine (shut s mine))) old.tells;
            opened = λ o. let wrong : true ≡ false = sym (shut-stays s h e (shut s mine)) ∙ o in cc;
          }

  pub idle-serial : (p : PairNo) → (uses_viewport p e.kind && is_done e.reply) ≡ false → (v : SessionNo) → viewport_owner setup p ≡ Some (Session v)
      → (kept : ℕ) → IsSerialKept p v h kept → IsSerialKept p v (h ▹ e) kept
  idle-serial p no_use v owner kept old = record { serial = old.serial; is = old.is; tells = by_actor (is_session v e.actor) refl }
    where
      by_actor : (b : Bool) → is_session v e.actor ≡ b → IsUseSerial p v (h ▹ e) old.serial
      by_actor false other = serial-other setup v p (owner-owns setup v p owner) h e legal other old.serial old.tells
      by_actor true mine =
          let same : length (viewport_uses p (h ▹ e)) ≡ length (viewport_uses p h) = rw no_use refl in
          let P : List Published → ℕ → Type 0 = λ ps u. (k : ℕ) → k ≤ length ps → Has p u old.serial (made_at ps k) in
          record {
            tells = subst (λ (u : ℕ). P (presents v (h ▹ e)) u) (sym same)
                (subst (λ (ps : List Published). P ps (length (viewport_uses p h))) (sym (shut-presents setup v h e legal mine (shut v mine))) old.tells.tells);
            opened = λ o. let wrong : true ≡ false = sym (shut-stays v h e (shut v mine)) ∙ o in cc;
          }

  -- all but what frames have seen of the last use or will have seen, where none was made
  pub pair-still : (p : PairNo) → (uses_viewport p e.kind && is_done e.reply) ≡ false → (state new : PairState)
      → new.ended ≡ state.ended → new.cleared ≡ state.cleared → new.serial ≡ state.serial → new.given ≡ state.given
      → ((v : SessionNo) → viewport_owner setup p ≡ Some (Session v) → new.seen ≡ props_seen setup p (length (viewport_uses p h)) v (h ▹ e))
      → ((v : SessionNo) → viewport_owner setup p ≡ Some (Session v) → new.pending ≡ props_pending setup p (length (viewport_uses p h)) v (h ▹ e))
      → IsPairKept setup h p state → IsPairKept setup (h ▹ e) p new
  pair-still p no_use state new ended cleared serial given seen pending kept = record {
    ended = λ w owner. subst (IsStamp (happens setup (ends_view p)) w (h ▹ e)) (sym ended)
        (idle-stamp (happens setup (ends_view p)) (happening-lasts setup (ends_view p)) w state.ended (kept.ended w owner));
    cleared = λ v owner. subst (IsStamp (happens setup (clears_viewport p)) v (h ▹ e)) (sym cleared)
        (idle-stamp (happens setup (clears_viewport p)) (happening-lasts setup (clears_viewport p)) v state.cleared (kept.cleared v owner));
    serial = λ v owner some. subst (IsSerialKept p v (h ▹ e)) (sym serial)
        (idle-serial p no_use v owner state.serial (kept.serial v owner (subst (λ (us : List Entry). 0 < length us) same some)));
    unused = λ none. serial ∙ kept.unused (ap (length {A = Entry}) (sym same) ∙ none);
    given = given ∙ kept.given ∙ ap (props_given setup) (sym same);
    seen = λ v owner. seen v owner ∙ ap (λ (us : List Entry). props_seen setup p (length us) v (h ▹ e)) (sym same);
    pending = λ v owner. pending v owner ∙ ap (λ (us : List Entry). props_pending setup p (length us) v (h ▹ e)) (sym same);
  }
    where
      same : viewport_uses p (h ▹ e) ≡ viewport_uses p h
      same = rw no_use refl

  -- an entry of no frame
  pub pair-idle : (p : PairNo) → (uses_viewport p e.kind && is_done e.reply) ≡ false → is_begin e.kind ≡ false → is_finish e.kind ≡ false → (state : PairState)
      → IsPairKept setup h p state → IsPairKept setup (h ▹ e) p state
  pair-idle p no_use no_begin no_finish state kept =
      pair-still p no_use state state refl refl refl refl (λ v owner. kept.seen v owner ∙ sym (rw no_finish refl))
      (λ v owner. kept.pending v owner ∙ sym (pending-step setup p (length (viewport_uses p h)) v h e no_begin no_finish)) kept
