-- What is kept of sessions and pairs, on a small history.
use Rattle.std.proofs.Common.{◌≡◌, true, false, ◌∷◌, [], drop, refl, Some, None, length}
use Rattle.flat_scene.specs.declared.calls.Call.TheVariants as call
use Rattle.flat_facts.specs.Clears.{clears_pair}
use Rattle.flat_rules.specs.Ends.{clears_viewport, happens, to_finished}
use Rattle.flat_facts.specs.Contents.{capped}
use Rattle.flat_links.specs.SessionLinks.{props_pending, seen_by_begin}
use Rattle.flat_rules.specs.Serials.{contents_made}
use Rattle.flat_rules.specs.Stamps.{first_at}
use Rattle.flat_links.specs.Usage.{props_among}
use Rattle.flat_rules.specs.Watch.{props_seen}
use Rattle.flat_scene.specs.Draft.{no_inset}
use Rattle.flat_rules.proofs.lemmas.Samples.{s, p, c}
use Rattle.flat_rules.proofs.lemmas.ShellRun.{shell_with_two_apps-setup, shell_with_two_apps-history}
use Rattle.flat_scene.specs.History.{calls}

-- the application has presented, is shown and connected
app-seen : seen_by_begin shell_with_two_apps-setup (to_finished shell_with_two_apps-history) (s 2)
    ≡ record { closed = false; taken = 2; view = Some (p 1); connected = true }
app-seen = refl

-- the first frame took nothing of it, as its fence wasn't signalled
app-before : seen_by_begin shell_with_two_apps-setup (to_finished (drop 11 shell_with_two_apps-history)) (s 2)
    ≡ record { closed = false; taken = 0; view = None; connected = false }
app-before = refl

-- the shell made two viewports; frames have seen the properties of the second as they were given
shell-contents : capped (length (contents_made (calls (s 1) shell_with_two_apps-history))) ≡ 2
shell-contents = refl

bar-seen : props_seen shell_with_two_apps-setup (p 2) 1 (s 1) shell_with_two_apps-history ≡ Some (record { w = 1280; h = 40; inset = no_inset })
bar-seen = refl

-- and no frame that is begun would change that
bar-pending : props_pending shell_with_two_apps-setup (p 2) 1 (s 1) shell_with_two_apps-history ≡ Some (record { w = 1280; h = 40; inset = no_inset })
bar-pending = refl

-- nothing was cleared, and no view ended
no-stamps : first_at (happens shell_with_two_apps-setup (clears_viewport (p 1))) (s 1) shell_with_two_apps-history ≡ None
no-stamps = refl

-- a Clear clears what lives, and not what was released before
cleared : clears_pair (p 1) (record { name = c 7; pair = p 1 } ∷ []) (call.Clear ∷ []) ≡ true
cleared = refl

released : clears_pair (p 1) (record { name = c 7; pair = p 1 } ∷ record { name = c 8; pair = p 2 } ∷ []) (call.ReleaseViewport (c 7) ∷ call.Clear ∷ []) ≡ false
released = refl

other-cleared : clears_pair (p 2) (record { name = c 7; pair = p 1 } ∷ record { name = c 8; pair = p 2 } ∷ []) (call.ReleaseViewport (c 7) ∷ call.Clear ∷ [])
    ≡ true
other-cleared = refl

-- a viewport of another serial is no last use
other-serial : props_among (p 1) (record { serial = 1; pair = p 1; props = record { w = 3; h = 4; inset = no_inset } } ∷ []) 2 ≡ None
other-serial = refl

last-use : props_among (p 1) (record { serial = 1; pair = p 1; props = record { w = 3; h = 4; inset = no_inset } } ∷ []) 1
    ≡ Some (record { w = 3; h = 4; inset = no_inset })
last-use = refl
