use Rattle.std.proofs.Common.{◌≡◌, ◌∙◌, ap, sym, subst, ℕ, ◌+◌, ◌<◌, arith, length, List, refl, slice_set}
use Rattle.std.proofs.lemmas.List.{length-set}
use Rattle.flat_links.specs.declared.session_links.SessionLinks.{SessionLinks}
use Rattle.flat_links.specs.declared.pairs.PairState.{PairState}
use Rattle.flat_facts.specs.Begins.{finished}
use Rattle.flat_links.specs.Hearing.{losings}
use Rattle.flat_links.specs.Usage.{SettlesPairs}
use Rattle.flat_links.proofs.Bounds.{losings-same}
use Rattle.flat_rules.specs.Numbers.{AllNumbered}
use Rattle.flat_links.proofs.LinksBegin.{FollowedUpTo, followed-start}
use Rattle.flat_links.proofs.LinksFinish.{finished-on, tied-finished}
use Rattle.flat_links.proofs.link_table.LinkTable.settle.Goals as goal

pub loop-i-init : goal.loop-i-init
loop-i-init c = record {
  count = c.requires;
  pairs = refl;
  losing = refl;
  followed = λ h line legal tied. followed-start c.args.setup.now h (finished h line) c.args.self.now.linked_sessions.items tied.each_session;
}

pub loop-i-preserved : goal.loop-i-preserved
loop-i-preserved c =
    let inv = c.loop-i.invariant in
    let was : SessionLinks = c.at-one.result in
    let new : SessionLinks = record was { finished = was.begun } in
    let items : c.set.new.self.items ≡ slice_set c.loop-i.self.linked_sessions.items c.loop-i.i new =
    c.set.ensures.items ∙ ap (slice_set c.loop-i.self.linked_sessions.items c.loop-i.i) c.finished_by.ensures in
    let below : c.loop-i.i < length c.loop-i.self.linked_sessions.items = omega (arith, inv.count, c.loop-i-test.true) in
    record {
      count = ap (length {A = SessionLinks}) items ∙ length-set c.loop-i.self.linked_sessions.items c.loop-i.i new ∙ inv.count;
      pairs = inv.pairs;
      losing = ap losings items ∙ losings-same c.loop-i.self.linked_sessions.items c.loop-i.i was new c.at-one.ensures refl ∙ inv.losing;
      followed = λ h line legal tied.
          subst (λ (fs : List SessionLinks). AllNumbered (FollowedUpTo c.args.setup.now h (finished h line) (c.loop-i.i + 1)) fs) (sym items)
          (finished-on c.args.setup.now h line legal c.loop-i.i c.loop-i.self.linked_sessions.items was below c.at-one.ensures
          (inv.followed h line legal tied));
    }

pub returns-clause-tied : goal.returns-clause-tied
returns-clause-tied c h line legal tied =
    let inv = c.loop-i.invariant in
    let all : c.loop-i.i ≡ c.args.setup.now.sessions = omega (arith, c.loop-i.auto.i-end, c.loop-i-test.false) in
    let settles = subst (λ (pairs : List PairState). SettlesPairs pairs c.settle.new.self.items) inv.pairs c.settle.ensures in
    tied-finished c.args.setup.now h line legal c.args.self.now.linked_sessions.items c.loop-i.self.linked_sessions.items c.args.self.now.pairs.items
    c.settle.new.self.items tied inv.count
    (subst (λ (n : ℕ). AllNumbered (FollowedUpTo c.args.setup.now h (finished h line) n) c.loop-i.self.linked_sessions.items) all
    (inv.followed h line legal tied))
    inv.losing settles
