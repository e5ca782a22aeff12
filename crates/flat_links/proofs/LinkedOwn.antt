-- What is kept of pairs, after an entry of a session.
use Rattle.std.proofs.Common.{◌≡◌, ◌∙◌, sym, true, false, List, ap}
use Rattle.flat_base.specs.declared.ids.Actor.TheVariants.{Session}
use Rattle.flat_base.specs.declared.ids.SessionNo.{SessionNo}
use Rattle.flat_scene.specs.declared.calls.Call.{Call}
use Rattle.flat_scene.specs.declared.journal.Entry.{Entry}
use Rattle.flat_scene.specs.declared.setup.Setup.{Setup}
use Rattle.flat_scene.specs.History.{◌▹◌, is_closed, is_session}
use Rattle.flat_facts.specs.declared.live_viewport.LiveViewport.{LiveViewport}
use Rattle.flat_states.specs.declared.state.SessionState.{SessionState}
use Rattle.flat_links.specs.declared.link_table.LinkTable.{LinkTable}
use Rattle.flat_links.specs.declared.viewports.Viewports.{Viewports}
use Rattle.flat_links.specs.SessionLinks.{AreLinked, IsOwnEntry, UsesNone}
use Rattle.flat_links.specs.AllEnds.{IsOwn, LinksNoted}
use Rattle.flat_states.proofs.lemmas.Changes.{is-session}
use Rattle.flat_rules.proofs.lemmas.Locality.{same-session}
use Rattle.flat_links.proofs.lemmas.LinksSteps.{tied-idle}

-- of one that is open
pub own-entry : (setup : Setup) (h : List Entry) (e : Entry) (s : SessionNo) (carries : List Call) (state : SessionState) (ends : Viewports)
    → IsOwn setup h e s carries state ends → is_closed s h ≡ false → (live : List LiveViewport) → live ≡ ends.live.items
    → IsOwnEntry setup h e s carries state.account live
own-entry setup h e s carries state ends own opened live is = record {
  legal = own.legal;
  mine = ap (is_session s) own.actor ∙ is-session s;
  opened = opened;
  carried = own.carried;
  counted = own.counted;
  viewed = own.viewed;
  living = is ∙ own.living opened;
}

-- where the session is open, its calls are noted
pub noted-open : (s : SessionNo) (carries : List Call) (state : SessionState) (ends : Viewports) (old new : LinkTable) (live : List LiveViewport)
    → live ≡ ends.live.items
    → state.closed ≡ false
    → ((setup : Setup) (h : List Entry) (e : Entry) → IsOwnEntry setup h e s carries state.account live → UsesNone e
    → AreLinked setup h old.linked_sessions.items old.pairs.items → AreLinked setup (h ▹ e) new.linked_sessions.items new.pairs.items)
    → LinksNoted s carries state ends old new
noted-open s carries state ends old new live is opened note setup h e own uses tied =
    note setup h e (own-entry setup h e s carries state ends own (sym own.closed ∙ opened) live is) uses tied

-- and where it is closed there is nothing to note
pub noted-shut : (s : SessionNo) (carries : List Call) (state : SessionState) (ends : Viewports) (links : LinkTable) → state.closed ≡ true
    → LinksNoted s carries state ends links links
noted-shut s carries state ends links shut setup h e own uses tied =
    tied-idle setup h e
    (record {
      legal = own.legal;
      no_begin = own.no_begin;
      no_finish = own.no_finish;
      no_use = uses;
      shut = λ t mine. ap (λ (r : SessionNo). is_closed r h) (same-one t (ap (is_session t) (sym own.actor) ∙ mine)) ∙ sym own.closed ∙ shut;
    }) links.linked_sessions.items links.pairs.items tied
  where
    same-one : (t : SessionNo) → is_session t (Session s) ≡ true → t ≡ s
    same-one t mine = sym (same-session t s mine)
