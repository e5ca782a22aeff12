use Rattle.std.proofs.Common.{◌++◌}
use Rattle.std.specs.List.{flat_map}
use Rattle.flat_stress.specs.Words.{from_to}
use Rattle.flat_stress.specs.Load.{head, host, guest, frame, later, load_text}
use Rattle.flat_stress.proofs.Writing.{on_ok_of_err, two}
use Rattle.flat_stress.proofs.load.push_load.Goals as goal

pub returns-in_err-push_frame : goal.returns-in_err-push_frame
returns-in_err-push_frame c = on_ok_of_err _ _ c.from_residual-in_err-push_frame.ensures.0

pub returns-in_err-push_later_frames : goal.returns-in_err-push_later_frames
returns-in_err-push_later_frames c = on_ok_of_err _ _ c.from_residual-in_err-push_later_frames.ensures.0

pub returns : goal.returns
unfolding load_text
returns c =
    let guests = flat_map guest (from_to 2 8) in
    let others = flat_map later (from_to 2 c.args.n) in
    let a = two head host _ _ _ c.in_ok-push_head.ensures c.in_ok-push_host.ensures in
    let b = two (head ++ host) guests _ _ _ a c.in_ok-push_guests.ensures in
    let d = two (head ++ host ++ guests) (frame 1) _ _ _ b c.in_ok-push_frame.ensures in
    let e = two (head ++ host ++ guests ++ frame 1) others _ _ _ d c.in_ok-push_later_frames.ensures in
    e
