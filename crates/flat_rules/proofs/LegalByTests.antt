-- A history is legal where all tests on its entries hold and each entry has its reply.
use Rattle.std.proofs.Common.{◌≡◌, Bool, true, List, []}
use Rattle.std.specs.Prelude.{◌&&◌, ◌-◌, length, slice_get}
use Rattle.flat_base.specs.declared.ids.Actor.{Actor}
use Rattle.flat_scene.specs.declared.calls.Call.{Call}
use Rattle.flat_scene.specs.declared.journal.Entry.{Entry}
use Rattle.flat_scene.specs.declared.journal.EntryKind.{EntryKind}
use Rattle.flat_scene.specs.declared.setup.Setup.{Setup}
use Rattle.flat_scene.specs.History.{◌▹◌}
use Rattle.flat_base.proofs.lemmas.Tests.{and-left, and-right}
use Rattle.flat_rules.specs.Legal.{Legal, MayEnter, reply_to, may_act, goes_on, keeps_time, has_draft, own_call, links_alone, owns_all, may_name, has_tree}
use Rattle.flat_rules.specs.Legal.{draft_with, has_watcher}

-- all that an entry must meet, as one test
abbrev pub may_enter : Setup → List Entry → Actor → List Call → EntryKind → Bool
may_enter setup before actor carries kind =
    may_act setup kind actor && (goes_on before kind actor && (keeps_time before kind && (has_draft setup before actor carries kind
    && (own_call kind (slice_get carries (length carries - 1)) && (links_alone kind carries && (owns_all setup actor carries kind
    && (may_name setup actor kind && (has_tree setup (draft_with setup before actor carries) kind && has_watcher setup before actor carries kind))))))))

enters : (setup : Setup) (before : List Entry) (actor : Actor) (carries : List Call) (kind : EntryKind) → may_enter setup before actor carries kind ≡ true
    → MayEnter setup before actor carries kind
enters setup before actor carries kind may =
    let from_2 = and-right (may_act setup kind actor) _ may in
    let from_3 = and-right (goes_on before kind actor) _ from_2 in
    let from_4 = and-right (keeps_time before kind) _ from_3 in
    let from_5 = and-right (has_draft setup before actor carries kind) _ from_4 in
    let from_6 = and-right (own_call kind (slice_get carries (length carries - 1))) _ from_5 in
    let from_7 = and-right (links_alone kind carries) _ from_6 in
    let from_8 = and-right (owns_all setup actor carries kind) _ from_7 in
    let from_9 = and-right (may_name setup actor kind) _ from_8 in
    record {
      acts = and-left (may_act setup kind actor) _ may;
      lasts = and-left (goes_on before kind actor) _ from_2;
      times = and-left (keeps_time before kind) _ from_3;
      drafted = and-left (has_draft setup before actor carries kind) _ from_4;
      calls = and-left (own_call kind (slice_get carries (length carries - 1))) _ from_5;
      links = and-left (links_alone kind carries) _ from_6;
      owned = and-left (owns_all setup actor carries kind) _ from_7;
      named = and-left (may_name setup actor kind) _ from_8;
      tree = and-left (has_tree setup (draft_with setup before actor carries) kind) _ from_9;
      watcher = and-right (has_tree setup (draft_with setup before actor carries) kind) _ from_9;
    }

abbrev pub all_enter : Setup → List Entry → Bool
all_enter setup [] = true
all_enter setup (before ▹ entry) = all_enter setup before && may_enter setup before entry.actor entry.calls entry.kind

abbrev pub AllReplied : Setup → List Entry → Type 0
AllReplied setup [] = Unit {0}
AllReplied setup (before ▹ entry) = AllReplied setup before × (entry.reply ≡ reply_to setup before entry.actor entry.calls entry.kind)

pub legal-by-tests : (setup : Setup) (history : List Entry) → all_enter setup history ≡ true → AllReplied setup history → Legal setup history
legal-by-tests setup [] enter replied = tt
legal-by-tests setup (before ▹ entry) enter replied = (
  legal-by-tests setup before (and-left (all_enter setup before) (may_enter setup before entry.actor entry.calls entry.kind) enter) replied.0,
  record {
    may = enters setup before entry.actor entry.calls entry.kind
        (and-right (all_enter setup before) (may_enter setup before entry.actor entry.calls entry.kind) enter);
    reply = replied.1;
  },
)
