-- Declared names, and who they name.
use Rattle.std.specs.Prelude.{ℕ, ◌+◌, ◌==◌, nat_le, Bool, true, false, ◌&&◌, ◌||◌, not, List, [], ◌∷◌, length, Option}
use Rattle.std.specs.Prelude.{Some, option_map, position, is_some, slice_index, codes, if◌then◌else◌}
use Rattle.std.specs.Option.{option_or}
use Rattle.std.specs.List.{list_any, list_all}
use Rattle.std.specs.Str.{bytes_eq}
use Rattle.std.specs.Char.{is_ascii_digit, is_ascii_alphabetic}
use Rattle.flat_base.specs.declared.ids.Actor.{Actor}
use Rattle.flat_base.specs.declared.ids.Actor.TheVariants.{Display, Session, Probe}
use Rattle.flat_base.specs.declared.ids.SessionNo.{SessionNo}
use Rattle.flat_base.specs.declared.limits.TheConstants.{NAME_BYTES_MAX}
use Rattle.flat_places.specs.declared.script.Script.{Script}
use Rattle.flat_places.specs.Forms.{Word}

-- a letter, a digit or `_`
abbrev pub is_name_byte : ℕ → Bool
is_name_byte b = is_ascii_alphabetic b || is_ascii_digit b || (b == 95)

-- a word that lines use where names stand
abbrev pub is_reserved : Word → Bool
is_reserved w = list_any (bytes_eq w) (codes "display" ∷ codes "acquire" ∷ codes "release" ∷ [])

-- at most 16 letters, digits or `_`, a letter first, and not reserved
abbrev pub is_name : Word → Bool
is_name w = is_ascii_alphabetic (slice_index w 0) && list_all is_name_byte w && nat_le (length w) NAME_BYTES_MAX
    && not (is_reserved w)

-- the place of a name in the order of declaration, from 0
abbrev pub place_of : List Word → Word → Option ℕ
place_of names w = position (λ n. bytes_eq n w) names

-- the word is a declared name of any sort
abbrev pub is_declared : Script → Word → Bool
is_declared s w =
    list_any (λ names. is_some (place_of names w)) (s.sessions ∷ s.probes ∷ s.buffers ∷ s.pairs ∷ s.fences ∷ [])

-- the session of that name; sessions are numbered from 1
abbrev pub session_named : Script → Word → Option SessionNo
session_named s w = option_map (λ i. record { 0 = i + 1 }) (place_of s.sessions w)

-- a session, or the display
abbrev pub owner_named : Script → Word → Option Actor
owner_named s w = if bytes_eq w (codes "display") then Some Display else option_map Session (session_named s w)

-- a session, the display or a probe
abbrev pub actor_named : Script → Word → Option Actor
actor_named s w = option_or (owner_named s w) (option_map Probe (place_of s.probes w))

-- the two are one actor
abbrev pub is_actor : Actor → Actor → Bool
is_actor Display Display = true
is_actor (Session a) (Session b) = a.0 == b.0
is_actor (Probe a) (Probe b) = a == b
is_actor _ _ = false
