-- An entry is legal if it breaks no rule and has its reply; it is refused if it breaks one, or has another reply.
use Rattle.std.proofs.Common.{◌≡◌, Bool, true, false, List, [], ◌∷◌, refl}
use Rattle.std.specs.List.{AllByRecursion}
use Rattle.flat_scene.specs.declared.journal.Entry.{Entry}
use Rattle.flat_scene.specs.declared.setup.Setup.{Setup}
use Rattle.flat_scene.specs.History.{◌▹◌}
use Rattle.flat_rules.specs.Legal.{Legal, MayEnter, reply_to}
use Rattle.flat_examples.specs.Refused.{Rule, rules_met, unmet, broken, RefusesEntry, NoneIsBroken}

abbrev AllMet : List (Bool × Rule) → Type 0
AllMet rules = AllByRecursion (λ rule. rule.0 ≡ true) rules

all-met : (rules : List (Bool × Rule)) → unmet rules ≡ [] → AllMet rules
all-met [] none = tt
all-met ((true, rule) ∷ rules) none = (refl, all-met rules none)
all-met ((false, rule) ∷ rules) none = absurd cc

none-unmet : (rules : List (Bool × Rule)) → AllMet rules → unmet rules ≡ []
none-unmet [] met = refl
none-unmet ((b, rule) ∷ rules) met = rw met.0 (none-unmet rules met.1)

module _ (setup : Setup) (before : List Entry) where
  may-enter : (entry : Entry) → AllMet (rules_met setup before entry) → MayEnter setup before entry.actor entry.calls entry.kind
  may-enter entry met = record {
    acts = met.0;
    lasts = met.1.0;
    times = met.1.1.0;
    drafted = met.1.1.1.0;
    calls = met.1.1.1.1.0;
    links = met.1.1.1.1.1.0;
    owned = met.1.1.1.1.1.1.0;
    named = met.1.1.1.1.1.1.1.0;
    tree = met.1.1.1.1.1.1.1.1.0;
    watcher = met.1.1.1.1.1.1.1.1.1.0;
  }

  all-of : (entry : Entry) → MayEnter setup before entry.actor entry.calls entry.kind → AllMet (rules_met setup before entry)
  all-of entry may =
      (may.acts, (may.lasts, (may.times, (may.drafted, (may.calls, (may.links, (may.owned, (may.named, (may.tree, (may.watcher, tt))))))))))

  pub entered : (entry : Entry) → Legal setup before → broken setup before entry ≡ []
      → entry.reply ≡ reply_to setup before entry.actor entry.calls entry.kind → Legal setup (before ▹ entry)
  entered entry legal none reply = (legal, record { may = may-enter entry (all-met (rules_met setup before entry) none); reply = reply })

  not-both : (rules : List Rule) (rule : Rule) (more : List Rule) → rules ≡ rule ∷ more → rules ≡ [] → ⊥
  not-both rules rule more is none = cc

  pub breaks-a-rule : (entry : Entry) (rule : Rule) (rules : List Rule) → broken setup before entry ≡ rule ∷ rules → ¬ (Legal setup (before ▹ entry))
  breaks-a-rule entry rule rules is legal =
      not-both (broken setup before entry) rule rules is (none-unmet (rules_met setup before entry) (all-of entry legal.1.may))

  -- a legal entry beside one that breaks a rule
  pub refuses-entry : (right wrong : Entry) (rule : Rule) → Legal setup before → broken setup before right ≡ []
      → right.reply ≡ reply_to setup before right.actor right.calls right.kind → wrong.reply ≡ reply_to setup before wrong.actor wrong.calls wrong.kind
      → broken setup before wrong ≡ rule ∷ [] → RefusesEntry setup before right wrong rule
  refuses-entry right wrong rule legal none reply replied is =
      record { accepted = entered right legal none reply; replied = replied; breaks = is; refused = breaks-a-rule wrong rule [] is }

pub none-is-broken : NoneIsBroken
none-is-broken setup before entry = (
  λ none. may-enter setup before entry (all-met (rules_met setup before entry) none),
  λ may. none-unmet (rules_met setup before entry) (all-of setup before entry may),
)

-- each entry of a history breaks no rule and has its reply
abbrev pub AreEntered : Setup → List Entry → Type 0
AreEntered setup [] = Unit {0}
AreEntered setup (before ▹ entry) =
    AreEntered setup before × (broken setup before entry ≡ []) × (entry.reply ≡ reply_to setup before entry.actor entry.calls entry.kind)

pub all-entered : (setup : Setup) (history : List Entry) → AreEntered setup history → Legal setup history
all-entered setup [] entries = tt
all-entered setup (before ▹ entry) entries = entered setup before entry (all-entered setup before entries.0) entries.1 entries.2
