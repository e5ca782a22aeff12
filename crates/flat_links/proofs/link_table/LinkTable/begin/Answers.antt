use Rattle.std.proofs.Common.{◌≡◌, ◌∙◌, ap, sym, subst, ℕ, ◌+◌, ◌<◌, arith, length, List, Option, None, refl, slice_set, slice_index_or}
use Rattle.std.specs.Prelude.{is_some}
use Rattle.std.proofs.lemmas.List.{length-set}
use Rattle.flat_scene.specs.declared.trees.ViewportUse.{ViewportUse}
use Rattle.flat_links.specs.declared.session_links.SessionLinks.{SessionLinks}
use Rattle.flat_links.specs.declared.session_links.SeenAtBegin.{SeenAtBegin}
use Rattle.flat_facts.specs.Begins.{begun}
use Rattle.flat_facts.specs.Pairs.{pair}
use Rattle.flat_links.specs.Hearing.{IsBound, losings}
use Rattle.flat_links.proofs.Bounds.{bounds-seen, losings-same}
use Rattle.flat_links.specs.Usage.{SeesUses}
use Rattle.flat_rules.specs.Numbers.{AllNumbered}
use Rattle.flat_links.proofs.LinksBegin.{FollowedUpTo, begun-on, followed-start, seen_at_begin-at}
use Rattle.flat_links.proofs.LinksSees.{PairUpTo, looked-at, pairs-on, pairs-start, tied-begun}
use Rattle.flat_links.proofs.link_table.LinkTable.begin.Goals as goal

pub loop-i-init : goal.loop-i-init
loop-i-init c = record {
  count = ap (length {A = SessionLinks}) c.find_connected.ensures.items ∙ c.requires.count;
  many = refl;
  losing = ap losings c.find_connected.ensures.items;
  bound = λ h tied. tied.bound;
  connected = c.find_connected.ensures.connected;
  followed = λ h line time begins tied. rw c.find_connected.ensures.items
      (followed-start c.args.setup.now h (begun h line time) c.args.self.now.linked_sessions.items tied.each_session);
  each = λ h line time begins tied. pairs-start c.args.setup.now h line time c.args.sessions.now c.args.shown.now begins c.args.self.now.pairs.items
      tied.each_pair;
}

pub loop-i-preserved : goal.loop-i-preserved
loop-i-preserved c =
    let inv = c.loop-i.invariant in
    let i = c.loop-i.i in
    let was : SessionLinks = c.at-one.result in
    let seen_at_begin = c.see_session-seen_at_begin.ensures c.args.setup.now (c.is_connected-connected.ensures ∙ inv.connected i) in
    let new : SessionLinks = record was { begun = c.see_session-seen_at_begin.result } in
    let items : c.set.new.self.items ≡ slice_set c.loop-i.self.linked_sessions.items i new =
    c.set.ensures.items ∙ ap (slice_set c.loop-i.self.linked_sessions.items i) c.begun_by.ensures in
    let below : c.loop-i.i < length c.loop-i.self.linked_sessions.items = omega (arith, inv.count, c.loop-i-test.true) in
    record {
      count = ap (length {A = SessionLinks}) items ∙ length-set c.loop-i.self.linked_sessions.items i new ∙ inv.count;
      many = c.see_taken.ensures.count ∙ inv.many;
      losing = ap losings items ∙ losings-same c.loop-i.self.linked_sessions.items i was new c.at-one.ensures refl ∙ inv.losing;
      bound = λ h tied. bounds-seen c.args.setup.now (losings c.args.self.now.linked_sessions.items) _ c.loop-i.self.pairs.items c.see_taken.new.pairs.items
          c.see_taken.ensures (inv.bound h tied);
      connected = λ j. ap (λ (known : List (Option ℕ)). is_some (slice_index_or known j None)) c.set.ensures.distances ∙ inv.connected j;
      followed = λ h line time begins tied.
          let on = begun-on c.args.setup.now h line time c.args.sessions.now c.args.shown.now begins i c.loop-i.self.linked_sessions.items was
          c.index-sessions-i.result c.loop-i-test.true c.requires.all inv.count c.index-sessions-i.is c.at-one.ensures
          (inv.followed h line time begins tied) in
          subst (λ (fs : List SessionLinks). AllNumbered (FollowedUpTo c.args.setup.now h (begun h line time) (c.loop-i.i + 1)) fs) (sym items)
          (subst (λ (g : SeenAtBegin). AllNumbered (FollowedUpTo c.args.setup.now h (begun h line time) (c.loop-i.i + 1))
          (slice_set c.loop-i.self.linked_sessions.items c.loop-i.i (let new : SessionLinks = record c.at-one.result { begun = g } in new))) (sym seen_at_begin)
          on);
      each = λ h line time begins tied.
          let here = seen_at_begin ∙ seen_at_begin-at c.args.setup.now h line time c.args.sessions.now c.args.shown.now begins i c.index-sessions-i.result
          c.loop-i-test.true
          c.requires.all c.index-sessions-i.is in
          let looked = looked-at c.args.setup.now h line time c.args.sessions.now c.args.shown.now begins i c.loop-i.self.linked_sessions.items was
          c.see_session-seen_at_begin.result below c.loop-i-test.true c.at-one.ensures (inv.followed h line time begins tied) here in
          pairs-on c.args.setup.now h line time c.args.sessions.now c.args.shown.now begins i c.loop-i.self.pairs.items c.see_taken.new.pairs.items
          (subst (λ (us : List ViewportUse). SeesUses us c.loop-i.self.pairs.items c.see_taken.new.pairs.items) looked c.see_taken.ensures)
          (inv.each h line time begins tied);
    }

pub returns-clause-tied : goal.returns-clause-tied
returns-clause-tied c h line time begins tied =
    let inv = c.loop-i.invariant in
    let all : c.loop-i.i ≡ c.args.setup.now.sessions = omega (arith, c.loop-i.auto.i-end, c.loop-i-test.false) in
    tied-begun c.args.setup.now h line time c.args.sessions.now c.args.shown.now begins c.loop-i.self.linked_sessions.items c.loop-i.self.pairs.items inv.count
    (inv.many ∙ tied.count)
    (subst (λ (n : ℕ). AllNumbered (FollowedUpTo c.args.setup.now h (begun h line time) n) c.loop-i.self.linked_sessions.items) all
    (inv.followed h line time begins tied))
    (subst (λ (n : ℕ). AllNumbered (λ j. PairUpTo c.args.setup.now h (begun h line time) n (pair j)) c.loop-i.self.pairs.items) all
    (inv.each h line time begins tied))
    (subst (λ (l : List (Option ℕ)). AllNumbered (λ j. IsBound c.args.setup.now l (pair j)) c.loop-i.self.pairs.items) (sym inv.losing) (inv.bound h tied))
