use Rattle.std.proofs.Common.{rules, ◌≡◌, sym, ap, ◌∙◌}
use Rattle.flat_publish.specs.Frames.{frame_hits, last_number, last_of}
use Rattle.flat_report.specs.Probes.{asked_hits}
use Rattle.flat_race.specs.Publishing.{hits_of}
use Rattle.flat_race.proofs.lemmas.SeenFrames.{hits-last}
use Rattle.flat_race.proofs.probe.look.Goals as goal

pub returns-in_ok-frame-in-Hit-clause-hits : goal.returns-in_ok-frame-in-Hit-clause-hits
returns-in_ok-frame-in-Hit-clause-hits g c =
    let frames = c.hit.new.self.frames in
    let told : c.in_ok-frame-in-Hit.hits ≡ frame_hits (last_of frames) c.in-Hit.x c.in-Hit.y = search rules in
    told ∙ sym (hits-last frames c.in-Hit.x c.in-Hit.y c.hit.ensures.rising) ∙ ap (asked_hits (hits_of frames (last_number frames))) (sym c.in-Hit.is)

pub returns-in_err-frame-in-Hit-clause-home : goal.returns-in_err-frame-in-Hit-clause-home
returns-in_err-frame-in-Hit-clause-home g c = c.hit.ensures.home

pub returns-in_err-frame-in-Hit-clause-grows : goal.returns-in_err-frame-in-Hit-clause-grows
returns-in_err-frame-in-Hit-clause-grows g c = c.hit.ensures.grows

pub returns-in_err-frame-in-Await-clause-home : goal.returns-in_err-frame-in-Await-clause-home
returns-in_err-frame-in-Await-clause-home g c = c.look_again.ensures.home

pub returns-in_err-frame-in-Await-clause-grows : goal.returns-in_err-frame-in-Await-clause-grows
returns-in_err-frame-in-Await-clause-grows g c = c.look_again.ensures.grows

pub returns-in_ok-frame-in-Hit-clause-home : goal.returns-in_ok-frame-in-Hit-clause-home
returns-in_ok-frame-in-Hit-clause-home g c = c.hit.ensures.home

pub returns-in_ok-frame-in-Hit-clause-grows : goal.returns-in_ok-frame-in-Hit-clause-grows
returns-in_ok-frame-in-Hit-clause-grows g c = c.hit.ensures.grows

pub returns-in_ok-frame-in-Hit-clause-rising : goal.returns-in_ok-frame-in-Hit-clause-rising
returns-in_ok-frame-in-Hit-clause-rising g c = c.hit.ensures.rising

pub returns-in_ok-frame-in-Await-clause-home : goal.returns-in_ok-frame-in-Await-clause-home
returns-in_ok-frame-in-Await-clause-home g c = c.look_again.ensures.home

pub returns-in_ok-frame-in-Await-clause-grows : goal.returns-in_ok-frame-in-Await-clause-grows
returns-in_ok-frame-in-Await-clause-grows g c = c.look_again.ensures.grows

pub returns-in_ok-frame-in-Await-clause-rising : goal.returns-in_ok-frame-in-Await-clause-rising
returns-in_ok-frame-in-Await-clause-rising g c = c.in_ok-frame-in-Await.ensures.rising

pub returns-in_ok-frame-in-Await-clause-frame : goal.returns-in_ok-frame-in-Await-clause-frame
returns-in_ok-frame-in-Await-clause-frame g c = c.in_ok-frame-in-Await.ensures.frame
