use Rattle.std.proofs.Common.{◌≢◌, ◌≤◌, length, arith}
use Rattle.flat_links.proofs.ToldLinks.{beyond-seen_at_begin, within-seen_at_begin, zero-seen_at_begin}
use Rattle.flat_links.proofs.link_table.LinkTable.last_seen_at_begin.Goals as goal

pub returns-then-s-eq0 : goal.returns-then-s-eq0
returns-then-s-eq0 c setup h tied legal = zero-seen_at_begin setup c.args.s h legal c.if-s-eq0.true

pub returns-then-place-len : goal.returns-then-place-len
returns-then-place-len c setup h tied legal =
    beyond-seen_at_begin setup c.args.s h legal c.args.self.now.linked_sessions.items tied.sessions (omega (arith, c.if-place-len.true, c.len.ensures))
    c.if-s-eq0.false

pub returns : goal.returns
returns c setup h tied legal =
    let some : c.args.s.0 ≢ 0 = c.if-s-eq0.false in
    let few : c.args.s.0 ≤ length c.args.self.now.linked_sessions.items = omega (arith, c.if-place-len.false, c.len.ensures, some) in
    within-seen_at_begin setup c.args.s h c.args.self.now.linked_sessions.items tied.each_session (omega (arith, some)) few c.at.result c.at.ensures
