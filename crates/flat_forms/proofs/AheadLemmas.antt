-- A line of the body that hangs on no line before it.
use Rattle.std.proofs.Common.{◌≡◌, List, ◌∷◌, Option, Some, Err, nat_lt, sym, ◌∙◌, ap}
use Rattle.std.specs.Option.{option_map_or}
use Rattle.flat_base.specs.declared.ids.Actor.{Actor}
use Rattle.flat_base.specs.declared.limits.TheConstants.{LINES_PER_ACTOR_MAX}
use Rattle.flat_scene.specs.declared.script.LineBody.{LineBody}
use Rattle.flat_places.specs.declared.kinds.FaultKind.TheVariants.{Limit, UnknownActor}
use Rattle.flat_places.specs.declared.script.Script.{Script}
use Rattle.flat_places.specs.Forms.{Word, Reading, mapped, unless_kind}
use Rattle.flat_places.specs.Names.{actor_named}
use Rattle.flat_places.specs.Slots.{IsCounted}
use Rattle.flat_forms.specs.Ahead.{IsSaid, SaysAhead, with_lines}
use Rattle.flat_forms.specs.Body.{body_line, counted_line, lines_of_actor, with_line}

pub said : (s : Script) (line : List Word) (w : Word) (rest : List Word) (a : Actor) (b : LineBody) → line ≡ w ∷ rest → Some a ≡ actor_named s w → IsCounted a
    → SaysAhead s a rest b → IsSaid s line a b
said s line w rest a b begins named counted says = record {
  counted = counted;
  reads = λ n lines.
      let t : Script = with_lines s lines in
      ap (body_line t n) begins
      ∙ ap (λ (o : Option Actor). option_map_or (λ x. counted_line t n x rest) o (Err UnknownActor)) (sym named)
      ∙ ap (λ (r : Reading LineBody). unless_kind Limit (nat_lt (lines_of_actor t a) LINES_PER_ACTOR_MAX) (mapped (with_line t n a) r)) (says lines);
}
