-- More of them: tokens, layouts, a cycle of links, and an app that is gone.
use Rattle.std.proofs.Common.{◌≡◌, [], ◌∷◌, refl}
use Rattle.std.specs.Prelude.{map, codes}
use Rattle.std.specs.Fmt.{digits}
use Rattle.flat_places.specs.declared.script.Script.{Script}
use Rattle.flat_rules.proofs.lemmas.TokenRuns.{b16_token_not_back_yet-setup, b16_token_not_back_yet-history, b16_token_not_back_yet-lines}
use Rattle.flat_rules.proofs.lemmas.LayoutRuns.{layout_before_first_present-setup, layout_before_first_present-history, layout_before_first_present-lines}
use Rattle.flat_rules.proofs.lemmas.TokenRuns.{cycle_of_links_is_never_reached-setup, cycle_of_links_is_never_reached-history}
use Rattle.flat_rules.proofs.lemmas.TokenRuns.{cycle_of_links_is_never_reached-lines, token_comes_back-setup, token_comes_back-history, token_comes_back-lines}
use Rattle.flat_rules.proofs.lemmas.EndRuns.{app_gone_before_all-setup, app_gone_before_all-history, app_gone_before_all-lines}
use Rattle.flat_report.specs.Report.{report_lines}
use Rattle.flat_page.specs.Words.{line_of}

-- misuse b16 token not back yet

abbrev b16_token_not_back_yet-script : Script
b16_token_not_back_yet-script = record {
  version = 1;
  setup = b16_token_not_back_yet-setup;
  sessions = (codes "A" ∷ codes "B" ∷ []);
  probes = [];
  buffers = [];
  pairs = (codes "t0" ∷ codes "t1" ∷ []);
  fences = [];
  lines = b16_token_not_back_yet-lines;
  count = 18;
}

b16_token_not_back_yet-report : map line_of (report_lines b16_token_not_back_yet-script b16_token_not_back_yet-history [] []) ≡
    codes "report flatland 1"
    ∷ codes "A 8 CreateView ok"
    ∷ codes "A 9 CreateViewport ok"
    ∷ codes "A 10 Present 1 credits 0"
    ∷ codes "display 11 begin 1 frame 1"
    ∷ codes "> A credits 5"
    ∷ codes "display 12 done frame 1"
    ∷ codes "view A - 0 0 6553600 6553600"
    ∷ codes "> A framepresented 1"
    ∷ codes "A 14 Present 2 credits 4"
    ∷ codes "A 15 closed BAD_OPERATION B16"
    ∷ codes "display 16 begin 2 frame 2"
    ∷ codes "display 17 done frame 2"
    ∷ codes "A end 1"
    ∷ codes "B end 0"
    ∷ codes "report ends entries 11 frames 2"
    ∷ []
unfolding digits
b16_token_not_back_yet-report = refl

-- layout before first present

abbrev layout_before_first_present-script : Script
layout_before_first_present-script = record {
  version = 1;
  setup = layout_before_first_present-setup;
  sessions = (codes "A" ∷ codes "B" ∷ []);
  probes = [];
  buffers = [];
  pairs = (codes "t0" ∷ codes "t1" ∷ []);
  fences = [];
  lines = layout_before_first_present-lines;
  count = 13;
}

layout_before_first_present-report : map line_of (report_lines layout_before_first_present-script layout_before_first_present-history [] []) ≡
    codes "report flatland 1"
    ∷ codes "B 8 CreateView ok"
    ∷ codes "B 9 GetLayout held"
    ∷ codes "A 10 CreateView ok"
    ∷ codes "A 11 CreateViewport ok"
    ∷ codes "> B layout t1 60 40 inset 0 0 0 0 ratio 65536"
    ∷ codes "B 12 GetLayout held"
    ∷ codes "B 13 closed BAD_HANGING_GET"
    ∷ codes "A end 0"
    ∷ codes "B end 0"
    ∷ codes "report ends entries 8 frames 0"
    ∷ []
unfolding digits
layout_before_first_present-report = refl

-- cycle of links is never reached

abbrev cycle_of_links_is_never_reached-script : Script
cycle_of_links_is_never_reached-script = record {
  version = 1;
  setup = cycle_of_links_is_never_reached-setup;
  sessions = (codes "A" ∷ codes "B" ∷ []);
  probes = [];
  buffers = [];
  pairs = (codes "t0" ∷ codes "t1" ∷ codes "t2" ∷ []);
  fences = [];
  lines = cycle_of_links_is_never_reached-lines;
  count = 22;
}

cycle_of_links_is_never_reached-report : map line_of (report_lines cycle_of_links_is_never_reached-script cycle_of_links_is_never_reached-history [] []) ≡
    codes "report flatland 1"
    ∷ codes "A 9 CreateView ok"
    ∷ codes "A 12 CreateViewport ok"
    ∷ codes "A 14 Present 1 credits 0"
    ∷ codes "B 15 CreateView ok"
    ∷ codes "B 18 CreateViewport ok"
    ∷ codes "B 20 Present 1 credits 0"
    ∷ codes "display 21 begin 1 frame 1"
    ∷ codes "> A credits 5"
    ∷ codes "> B credits 5"
    ∷ codes "display 22 done frame 1"
    ∷ codes "apart A"
    ∷ codes "apart B"
    ∷ codes "> A framepresented 1"
    ∷ codes "> B framepresented 1"
    ∷ codes "A end 0"
    ∷ codes "B end 0"
    ∷ codes "report ends entries 10 frames 1"
    ∷ []
unfolding digits
cycle_of_links_is_never_reached-report = refl

-- token comes back

abbrev token_comes_back-script : Script
token_comes_back-script = record {
  version = 1;
  setup = token_comes_back-setup;
  sessions = (codes "A" ∷ codes "B" ∷ []);
  probes = [];
  buffers = [];
  pairs = (codes "t0" ∷ codes "t1" ∷ []);
  fences = [];
  lines = token_comes_back-lines;
  count = 17;
}

token_comes_back-report : map line_of (report_lines token_comes_back-script token_comes_back-history [] []) ≡
    codes "report flatland 1"
    ∷ codes "A 8 CreateView ok"
    ∷ codes "A 9 CreateViewport ok"
    ∷ codes "A 10 Present 1 credits 0"
    ∷ codes "display 11 begin 1 frame 1"
    ∷ codes "> A credits 5"
    ∷ codes "display 12 done frame 1"
    ∷ codes "view A - 0 0 6553600 6553600"
    ∷ codes "> A framepresented 1"
    ∷ codes "A 14 Present 2 credits 4"
    ∷ codes "display 15 begin 2 frame 2"
    ∷ codes "> A credits 1"
    ∷ codes "display 16 done frame 2"
    ∷ codes "view A - 0 0 6553600 6553600"
    ∷ codes "> A framepresented 1"
    ∷ codes "> A tokenback t1"
    ∷ codes "A 17 CreateViewport ok"
    ∷ codes "A end 0"
    ∷ codes "B end 0"
    ∷ codes "report ends entries 11 frames 2"
    ∷ []
unfolding digits
token_comes_back-report = refl

-- app gone before all

abbrev app_gone_before_all-script : Script
app_gone_before_all-script = record {
  version = 1;
  setup = app_gone_before_all-setup;
  sessions = (codes "shell" ∷ codes "mail" ∷ codes "clock" ∷ []);
  probes = [];
  buffers = (codes "mb" ∷ []);
  pairs = (codes "root" ∷ codes "tm" ∷ codes "tc" ∷ []);
  fences = (codes "g1" ∷ codes "g2" ∷ codes "d1" ∷ codes "d2" ∷ []);
  lines = app_gone_before_all-lines;
  count = 58;
}

app_gone_before_all-report : map line_of (report_lines app_gone_before_all-script app_gone_before_all-history [] []) ≡
    codes "report flatland 1"
    ∷ codes "mail 15 closed"
    ∷ codes "clock 18 CreateView ok"
    ∷ codes "clock 19 GetStatus held"
    ∷ codes "shell 20 CreateView ok"
    ∷ codes "shell 28 CreateViewport ok"
    ∷ codes "shell 30 CreateViewport ok"
    ∷ codes "> clock status tc disconnected"
    ∷ codes "shell 32 GetChildStatus held"
    ∷ codes "shell 33 Present 1 credits 0"
    ∷ codes "clock 46 Present 1 credits 0"
    ∷ codes "clock 47 GetStatus held"
    ∷ codes "display 48 begin 16 frame 1"
    ∷ codes "> shell credits 5"
    ∷ codes "> clock credits 5"
    ∷ codes "display 49 done frame 1"
    ∷ codes "item clock 1 fill 0 0 0 128 1280 40 m 0 65536 65536 0 0 v 0 0 83886080 2621440 o 65536 over"
    ∷ codes "view shell - 0 0 83886080 52428800"
    ∷ codes "view clock shell 0 0 83886080 2621440"
    ∷ codes "> shell child tm gone"
    ∷ codes "> shell framepresented 1"
    ∷ codes "> clock status tc connected"
    ∷ codes "> clock framepresented 1"
    ∷ codes "display 51 begin 33 frame 2"
    ∷ codes "display 52 done frame 2"
    ∷ codes "item clock 1 fill 0 0 0 128 1280 40 m 0 65536 65536 0 0 v 0 0 83886080 2621440 o 65536 over"
    ∷ codes "view shell - 0 0 83886080 52428800"
    ∷ codes "view clock shell 0 0 83886080 2621440"
    ∷ codes "display 57 begin 50 frame 3"
    ∷ codes "display 58 done frame 3"
    ∷ codes "item clock 1 fill 0 0 0 128 1280 40 m 0 65536 65536 0 0 v 0 0 83886080 2621440 o 65536 over"
    ∷ codes "view shell - 0 0 83886080 52428800"
    ∷ codes "view clock shell 0 0 83886080 2621440"
    ∷ codes "shell end 0"
    ∷ codes "mail end 14"
    ∷ codes "clock end 0"
    ∷ codes "report ends entries 19 frames 3"
    ∷ []
unfolding digits
app_gone_before_all-report = refl
