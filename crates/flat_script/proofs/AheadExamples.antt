-- What is known of lines ahead, and plain bytes, on small texts.
use Rattle.std.proofs.Common.{◌≡◌, true, false, [], ◌∷◌, refl, codes, arith}
use Rattle.std.specs.List.{list_all}
use Rattle.flat_base.specs.declared.ids.Actor.TheVariants.{Session}
use Rattle.flat_scene.specs.declared.script.SessionLine.TheVariants as line
use Rattle.flat_scene.specs.declared.script.LineBody.TheVariants as body
use Rattle.flat_places.specs.declared.script.Script.{Script}
use Rattle.flat_forms.specs.declared.lines.TextPart.TheVariants as part
use Rattle.flat_script.specs.declared.ahead.Ahead.TheVariants.{Skipped, Said, Unknown}
use Rattle.flat_script.specs.Ahead.{AreAhead, IsAhead}
use Rattle.flat_script.specs.Plain.{is_text_byte}

-- a head with one session
abbrev a_head : Script
a_head = record {
  version = 1;
  setup = record { width = 9; height = 9; sessions = 1; probes = 0; pairs = []; buffers = []; fences = []; ratio = 65536 };
  sessions = codes "A" ∷ [];
  probes = [];
  buffers = [];
  pairs = [];
  fences = [];
  lines = [];
  count = 0;
}

poll_said : IsAhead a_head (Said (Session (record { 0 = 1 })) (body.Session line.Poll)) (codes "A Poll")
poll_said = record { counted = (omega arith, omega arith); reads = λ n lines. refl }

remark_skipped : IsAhead a_head Skipped (codes "# A Poll")
remark_skipped = λ n sofar. refl

-- a line that says something isn't skipped
poll_not_skipped : IsAhead a_head Skipped (codes "A Poll") → ⊥
poll_not_skipped all = let wrong = all 1 (part.Start, a_head) in absurd (cc)

-- of a remark and a line of the display the first may be known alone
first_alone : AreAhead a_head (Skipped ∷ Unknown ∷ []) (codes "#" ∷ codes "display done" ∷ [])
first_alone = (λ n sofar. refl, (tt, tt))

lines_plain : list_all is_text_byte (codes "A Poll\n# x\n") ≡ true
lines_plain = refl

tab_not_plain : list_all is_text_byte (codes "A\tPoll\n") ≡ false
tab_not_plain = refl
