-- Keys of names, and which name lies in a slot, on small words.
use Rattle.std.proofs.Common.{◌≡◌, ◌+◌, ◌*◌, Some, None, refl, codes}
use Rattle.flat_places.specs.declared.names.NameMeaning.TheVariants.{Session, Pair}
use Rattle.flat_places.specs.declared.names.CachedName.{CachedName}
use Rattle.flat_places.specs.Index.{first_cached, key_of, slot_of}

key_of_s4 : key_of (codes "S4") ≡ 83 + 256 * 52
key_of_s4 = refl

slot_of_s4 : slot_of (key_of (codes "S4")) ≡ 36
slot_of_s4 = refl

a_name : CachedName
a_name = record { key = 65; len = 1; meaning = Session 0 }

-- 126 is 65 and once more 61, so both names want one slot
other_name : CachedName
other_name = record { key = 126; len = 1; meaning = Pair 0 }

one_slot : slot_of 126 ≡ slot_of 65
one_slot = refl

put_first : first_cached None a_name ≡ a_name
put_first = refl

-- another name doesn't take the slot
stays : first_cached (Some a_name) other_name ≡ a_name
unfolding a_name other_name
stays = refl

-- the same name does
taken_again : first_cached (Some a_name) (record { key = 65; len = 1; meaning = Pair 3 }) ≡ record { key = 65; len = 1; meaning = Pair 3 }
unfolding a_name
taken_again = refl
