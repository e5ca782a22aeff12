use Rattle.std.proofs.Common.{◌≡◌, arith, rules, length, replicate, refl}
use Rattle.std.proofs.lemmas.List.{length-replicate}
use Rattle.flat_collect.specs.declared.cycle.SearchMark.TheVariants.{New}
use Rattle.flat_collect.proofs.Searches.{search-begin, links_within, new_marks}
use Rattle.flat_collect.proofs.cycle.has_cycle.Goals as goal

pub index_mut-requires : goal.index_mut-requires
index_mut-requires c =
    omega (arith, c.in_ok-marks.ensures.len, c.places.ensures c.args.root (c.root.ensures.sound.root_kept c.args.root c.requires))

pub search-init : goal.search-init
search-init c =
    let marks : c.in_ok-marks.marks.items ≡ replicate c.places.result New = c.in_ok-marks.ensures.items_if_clones_equal (λ y h. search rules) in
    let many : length c.in_ok-marks.marks.items ≡ c.places.result = rw (marks, length-replicate) refl in
    rw c.new-path.ensures.items
    (search-begin _ c.args.root c.in_ok-marks.marks.items (λ k. rw marks (new_marks c.places.result k))
    (λ k child has. rw many (links_within c.args.graph.now c.places.result c.root.ensures.sound c.places.ensures k child has))
    (rw many (c.places.ensures c.args.root (c.root.ensures.sound.root_kept c.args.root c.requires))))
