-- The definitions of the walk and of the distances, computed on the shell.
use Rattle.std.proofs.Common.{ℕ, zero, suc, ◌≡◌, refl, true, false, cond, [], ◌∷◌, Option, Some, None, map, slice_index_or, arith}
use Rattle.flat_geom.specs.Identity.{identity_matrix}
use Rattle.flat_join.specs.declared.scope.Scope.{Scope}
use Rattle.flat_join.specs.declared.join_walk.NodeRange.{NodeRange}
use Rattle.flat_topology.specs.Place.{display_rect, display_space, placed_nodes}
use Rattle.flat_join.specs.Walking.{viewer_at, flat_of, space_of, tree_of, still_count, still_placed, still_connected, work, below_stretch, after_stretch}
use Rattle.flat_join.specs.Walking.{pushed}
use Rattle.flat_join.specs.Distances.{leads_to, is_view_among, NotesViews}
use Rattle.flat_topology.specs.Shown.{is_shown_by, state_of, view_of}
use Rattle.flat_topology.specs.Links.{IsConnectedThrough}
use Rattle.flat_topology.specs.Join.{viewer_from, sessions_in}
use Rattle.flat_topology.proofs.lemmas.Samples.{session, shell_setup, shell_shown, viewport, fill}

abbrev display_scope : Scope
display_scope = record { matrix = identity_matrix; clip = display_rect shell_setup; opacity = 65536 }

-- all that the shell shows: it is the first of three views, so two may be below it
abbrev whole_shell : NodeRange
whole_shell = record { session = session 1; views = 2; next = 0; end = 3; scope = display_scope }

display_scoped : space_of display_scope ≡ display_space shell_setup
display_scoped = refl

shell_viewer : viewer_from 1 shell_shown 0 ≡ Some (viewer_at shell_shown (session 1))
shell_viewer = refl

-- serials and ends of the shell's nodes
shell_flat : map {B = ℕ × ℕ} (λ n. (n.serial, n.end)) (flat_of (state_of shell_shown 1)) ≡ (1, 3) ∷ (2, 2) ∷ (3, 3) ∷ []
shell_flat = refl

shell_tree : sessions_in (tree_of shell_shown whole_shell) ≡ 2 ∷ 3 ∷ []
shell_tree = refl

-- at the beginning all is left
all_left : still_placed shell_shown (whole_shell ∷ []) ≡ placed_nodes shell_setup shell_shown
all_left = refl

all_below : still_connected shell_shown 0 (whole_shell ∷ [])
    ≡ record { session = session 2; at = Some 1 } ∷ record { session = session 3; at = Some 3 } ∷ []
all_below = refl

all_counted : still_count shell_shown (whole_shell ∷ []) ≡ 5
all_counted = refl

all_work : work shell_shown (whole_shell ∷ []) ≡ 16
all_work = refl

-- the mail's viewport is the root's first child, and nothing is beside the root
first_parts : map {B = ℕ × ℕ} (λ s. (s.next, s.end)) (map (λ n. below_stretch whole_shell n display_scope) (flat_of (state_of shell_shown 1))) ≡ (1, 3) ∷ (1, 2)
    ∷ (1, 3) ∷ []
first_parts = refl

other_parts : map {B = ℕ × ℕ} (λ s. (s.next, s.end)) (map (after_stretch whole_shell) (flat_of (state_of shell_shown 1))) ≡ (3, 3) ∷ (2, 3) ∷ (3, 3) ∷ []
other_parts = refl

-- ---- who is shown by whom

mail_leads : leads_to 1 (viewport 1 1 640 760) ≡ true
mail_leads = refl

clock_leads_elsewhere : leads_to 1 (viewport 2 2 1280 40) ≡ false
clock_leads_elsewhere = refl

fill_leads_nowhere : leads_to 1 (fill 1 (0 ∷ 0 ∷ 0 ∷ 128 ∷ []) 1280 40) ≡ false
fill_leads_nowhere = refl

shell_shows_mail : is_shown_by shell_shown 1 1 ≡ true
shell_shows_mail = refl

mail_shows_none : is_shown_by shell_shown 1 2 ≡ false
mail_shows_none = refl

-- a stretch with a node comes first, and one without is left out
pushed_some : pushed [] whole_shell ≡ whole_shell ∷ []
pushed_some = refl

pushed_none : pushed (whole_shell ∷ []) (record whole_shell { next = whole_shell.end }) ≡ whole_shell ∷ []
pushed_none = refl

-- the mail's view is of a pair that the shell shows, and the shell's own is of none of them
mail_among : is_view_among (λ p. is_shown_by shell_shown p 1) (view_of (state_of shell_shown 2)) ≡ true
mail_among = refl

shell_apart : is_view_among (λ p. is_shown_by shell_shown p 1) (view_of (state_of shell_shown 1)) ≡ false
shell_apart = refl

-- what the shell shows is one farther than the shell itself
shell_notes : NotesViews shell_shown (λ p. is_shown_by shell_shown p 1) 1 (Some 0 ∷ None ∷ None ∷ []) (Some 0 ∷ Some 1 ∷ Some 1 ∷ [])
shell_notes = record { count = refl; each = each }
  where
    each : (s : ℕ) → slice_index_or {A = Option ℕ} (Some 0 ∷ Some 1 ∷ Some 1 ∷ []) s None
        ≡ cond (is_view_among (λ p. is_shown_by shell_shown p 1) (view_of (state_of shell_shown (suc s)))) (Some 1)
        (slice_index_or {A = Option ℕ} (Some 0 ∷ None ∷ None ∷ []) s None)
    each zero = refl
    each (suc zero) = refl
    each (suc (suc zero)) = refl
    each (suc (suc (suc s))) = refl

-- so it is connected through the shell
mail_through : IsConnectedThrough shell_setup shell_shown 1 2
mail_through = (1, record { pair = 1; viewport = (0, omega arith, refl); view = refl }, record { pair = 0; viewport = refl; view = refl })
