use Rattle.std.proofs.Common.{refl, length, ap, arith, slice_set, Some}
use Rattle.flat_places.specs.Index.{key_of}
use Rattle.flat_places.specs.Names.{is_name}
use Rattle.flat_places.proofs.KeyLemmas.{declared}
use Rattle.flat_places.proofs.CacheLemmas.{cache_after}
use Rattle.flat_places.proofs.lemmas.NameLemmas.{is_name-short}
use Rattle.flat_places.proofs.names.Names.declare.Goals as goal

pub key_of-key-requires : goal.key_of-key-requires
key_of-key-requires c = is_name-short c.args.name.now c.requires.name

pub returns-clause-found : goal.returns-clause-found
returns-clause-found c = λ w. declared (is_name w) w c.args.name.now c.args.meaning _ _ c.key_of-key.result c.key_of-key.ensures refl c.requires.name
    (c.in_ok-insert.ensures.updates.0 (key_of w))

pub returns-clause-cache : goal.returns-clause-cache
returns-clause-cache c = cache_after c.args.self.now _ c.args.name.now c.args.meaning c.slot_of-slot.result
    (record { key = c.key_of-key.result; len = length c.args.name.now; meaning = c.args.meaning })
    (λ w. declared (is_name w) w c.args.name.now c.args.meaning _ _ c.key_of-key.result c.key_of-key.ensures refl c.requires.name
    (c.in_ok-insert.ensures.updates.0 (key_of w)))
    (λ i. omega (arith, c.type_inv.name i)) (omega arith) c.key_of-key.ensures refl refl c.slot_of-slot.ensures.slot
    (ap (λ o. slice_set c.args.self.now.cache c.slot_of-slot.result (Some o)) c.first_cached.ensures) c.requires.cache
