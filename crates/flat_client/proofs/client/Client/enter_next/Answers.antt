use Rattle.std.proofs.Common.{◌≡◌, ◌<◌, true, false, Some, None, refl, sym, ap, ◌∙◌, subst, arith, rules}
use Rattle.flat_scene.specs.History.{closes}
use Rattle.flat_client.specs.Clients.{is_answer, is_farewell, room_of}
use Rattle.flat_client.proofs.Answering.{fits_made}
use Rattle.flat_client.proofs.Settling.{had_room, no_close, stays_made}
use Rattle.flat_client.proofs.client.Client.enter_next.Goals as goal
use Rattle.flat_client.proofs.client.Client.enter_next.Goals.{else-room-eq0-via-then-room-eq0+else-not-is_farewell, else-room-eq0-via-else-room-eq0}

pub returns-in_default : goal.returns-in_default
returns-in_default g c =
    let old = c.args.self.now in
    let answer = c.in-Ok.reply in
    let opened : closes answer ≡ false = no_close answer (λ why. c.in_default.not-Closed why.0 why.1) in
    let sort : is_answer c.args.text answer ≡ true = fits_made c.args.text answer old c.make.new.self c.requires.makes c.in-Ok.ensures.makes opened in
    let room : c.room.result ≡ room_of old = c.room.ensures.room in
    let not_full : room_of old ≡ 0 → is_farewell c.args.text ≡ false → ⊥ = λ none stays. elim c.else-room-eq0.branch as (λ v. ⊥) [
      | else-room-eq0-via-then-room-eq0+else-not-is_farewell w ↦ cc
      | else-room-eq0-via-else-room-eq0 w ↦ omega arith
    ] in
    record {
      enters = (c.requires.free, had_room c.args.text answer (room_of old) sort not_full, opened, c.in-Ok.ensures.makes);
      sort = sort;
      stays = stays_made c.args.text answer old c.make.new.self c.in-Ok.ensures.makes;
    }
