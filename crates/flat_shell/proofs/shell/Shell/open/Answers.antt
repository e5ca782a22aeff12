use Rattle.std.proofs.Common.{◌≡◌, ℕ, ◌+◌, ◌<◌, ◌≤◌, true, false, List, [], length, replicate, slice_index, sym, ap, ◌∙◌, subst}
use Rattle.std.specs.Arc.{arc_value}
use Rattle.flat_scene.specs.declared.setup.Setup.{Setup}
use Rattle.flat_scene.specs.Heads.{is_setup}
use Rattle.flat_core.specs.Machines.{Machine}
use Rattle.flat_rules.specs.Shown.{shown_states}
use Rattle.flat_play.specs.Last.{IsLast}
use Rattle.flat_stage.specs.Displays.{DisplayView}
use Rattle.flat_stage.specs.Homes.{AreFresh}
use Rattle.flat_stage.specs.Seats.{StageView, setup_of, shares_of}
use Rattle.flat_shell.proofs.Living.{opened_live}
use Rattle.flat_shell.proofs.Shelving.{opened, read-at, waits-first}
use Rattle.flat_shell.proofs.shell.Shell.open.Goals as goal

pub invariant_of-shell : goal.invariant_of-shell
invariant_of-shell c =
    let good = c.into_parts-setup.ensures.good in
    let kept : c.in_ok-kept.kept ≡ c.args.setup.setup = c.in_ok-kept.ensures ∙ c.into_parts-setup.ensures.setup in
    let shared : c.in_ok-kept_shares.kept_shares ≡ c.args.setup.shares = c.in_ok-kept_shares.ensures ∙ c.into_parts-setup.ensures.shares in
    let arc : arc_value c.in_ok-setup.setup ≡ c.args.setup.setup = c.in_ok-setup.ensures.ok ∙ kept in
    let own : c.in_ok-stage.seats.stage ≡ arc_value c.in_ok-stage-2.stage = c.in_ok-stage.ensures.own ∙ sym c.in_ok-stage-2.ensures.ok in
    let setup_is : setup_of c.in_ok-stage.seats.stage ≡ c.args.setup.setup =
    ap setup_of c.in_ok-stage.ensures.own ∙ c.in_ok-stage.ensures.setup ∙ ap (λ (m : Machine). m.setup) c.in_ok-board.ensures
    ∙ c.into_parts-setup.ensures.setup in
    let shares_are : shares_of c.in_ok-stage.seats.stage ≡ c.args.setup.shares =
    ap shares_of c.in_ok-stage.ensures.own ∙ c.in_ok-stage.ensures.shares ∙ ap (λ (m : Machine). m.shares) c.in_ok-board.ensures
    ∙ c.into_parts-setup.ensures.shares in
    let count : c.in_ok-board.board.setup.sessions ≡ (arc_value c.in_ok-setup.setup).sessions = ap (λ (m : Machine). m.setup.sessions) c.in_ok-board.ensures
    ∙ ap (λ (s : Setup). s.sessions) (c.into_parts-setup.ensures.setup ∙ sym arc) in
    let V : StageView → Type 0 = λ v. AreFresh v c.in_ok-board.board.setup.sessions c.in_ok-stage.seats.seats in
    let N : ℕ → Type 0 = λ n. AreFresh (arc_value c.in_ok-stage-2.stage) n c.in_ok-stage.seats.seats in
    let R : List ℕ → Type 0 = λ xs. (s : ℕ) → 0 < s → s ≤ (arc_value c.in_ok-setup.setup).sessions → 2 ≤ slice_index xs s in
    let S : ℕ → Type 0 = λ n. (s : ℕ) → 0 < s → s ≤ n → 2 ≤ slice_index c.args.setup.shares s in
    opened (arc_value c.in_ok-stage-2.stage) (arc_value c.in_ok-setup.setup) c.in_ok-kept_shares.kept_shares
    (record { stage = c.in_ok-stage.seats.stage; home = c.in_ok-stage.seats.seats; handed = c.in_ok-handed.handed.items }) own (arc ∙ sym setup_is)
    (shared ∙ sym shares_are)
    (ap (length {A = ℕ}) shared ∙ good.actors ∙ ap (λ (s : Setup). s.sessions + 1) (sym arc))
    (subst R (sym shared) (subst S (ap (λ (s : Setup). s.sessions) (sym arc)) good.owing))
    (subst N count (subst V (sym c.in_ok-stage-2.ensures.ok) c.in_ok-stage.ensures.sessions))
    (c.in_ok-handed.ensures.many ∙ ap (λ (s : Setup). s.sessions) (kept ∙ sym arc))

pub invariant_of-result : goal.invariant_of-result
invariant_of-result c =
    let good = c.into_parts-setup.ensures.good in
    let kept : c.in_ok-kept.kept ≡ c.args.setup.setup = c.in_ok-kept.ensures ∙ c.into_parts-setup.ensures.setup in
    let shared : c.in_ok-kept_shares.kept_shares ≡ c.args.setup.shares = c.in_ok-kept_shares.ensures ∙ c.into_parts-setup.ensures.shares in
    let view : StageView = c.in_ok-stage.stage in
    let setup_is : setup_of view ≡ c.args.setup.setup = c.in_ok-stage.ensures.setup ∙ ap (λ (m : Machine). m.setup) c.in_ok-board.ensures
    ∙ c.into_parts-setup.ensures.setup in
    let shares_are : shares_of view ≡ c.args.setup.shares = c.in_ok-stage.ensures.shares ∙ ap (λ (m : Machine). m.shares) c.in_ok-board.ensures
    ∙ c.into_parts-setup.ensures.shares in
    let first : slice_index c.in_ok-kept_shares.kept_shares 0 ≡ c.at-share.result.now =
    read-at c.in_ok-kept_shares.kept_shares 0 c.at-share.result.now c.at-share.ensures in
    let G : Setup → Type 0 = λ s. is_setup s ≡ true in
    let L : Setup → Type 0 = λ s. IsLast s c.in_ok-last.last in
    let same : c.in_ok-kept.kept ≡ setup_of view = kept ∙ sym setup_is in
    let k = c.in_ok-keeper.ensures in
    opened_live view c.in_ok-keeper.keeper c.in_ok-last.last c.in_ok-stage.compositor c.in_ok-stage.ensures.compositor
    (sym (k.stage ∙ c.in_ok-stage-2.ensures.ok))
    (k.setup ∙ c.in_ok-setup.ensures.ok ∙ same)
    (subst G (sym setup_is) good.good) (k.share ∙ sym first ∙ ap (λ (xs : List ℕ). slice_index xs 0) (shared ∙ sym shares_are)) k.few k.made k.time k.frames
    k.shown
    (subst L same c.in_ok-last.ensures.is) c.in_ok-last.ensures.number (c.in_ok-last.ensures.shows ∙ ap (λ (s : Setup). shown_states s []) same)
    (c.in_ok-last.ensures.ratio ∙ ap (λ (s : Setup). s.ratio) same)

pub returns-clause-opened : goal.returns-clause-opened
returns-clause-opened c =
    let kept : c.in_ok-kept.kept ≡ c.args.setup.setup = c.in_ok-kept.ensures ∙ c.into_parts-setup.ensures.setup in
    let own : c.in_ok-stage.seats.stage ≡ c.in_ok-stage.stage = c.in_ok-stage.ensures.own in
    let sessions : c.in_ok-board.board.setup.sessions ≡ c.args.setup.setup.sessions = ap (λ (m : Machine). m.setup.sessions) c.in_ok-board.ensures
    ∙ ap (λ (s : Setup). s.sessions) c.into_parts-setup.ensures.setup in
    let V : StageView → Type 0 = λ v. AreFresh v c.in_ok-board.board.setup.sessions c.in_ok-stage.seats.seats in
    let N : ℕ → Type 0 = λ n. AreFresh c.in_ok-stage.seats.stage n c.in_ok-stage.seats.seats in
    let first : c.in_ok-handed.handed.items ≡ replicate c.args.setup.setup.sessions false = c.in_ok-handed.ensures.none
    ∙ ap (λ (s : Setup). replicate s.sessions false) kept in
    record {
      setup = ap setup_of own ∙ c.in_ok-stage.ensures.setup ∙ ap (λ (m : Machine). m.setup) c.in_ok-board.ensures ∙ c.into_parts-setup.ensures.setup;
      shares = ap shares_of own ∙ c.in_ok-stage.ensures.shares ∙ ap (λ (m : Machine). m.shares) c.in_ok-board.ensures ∙ c.into_parts-setup.ensures.shares;
      display = c.in_ok-stage.ensures.compositor.display ∙ ap (λ (v : StageView). let d : DisplayView = record { stage = v; seen = []; mine = [] } in d)
          (sym own);
      home = subst N sessions (subst V (sym own) c.in_ok-stage.ensures.sessions);
      waiting = λ s declared. waits-first c.in_ok-handed.handed.items c.args.setup.setup.sessions s first declared;
    }
