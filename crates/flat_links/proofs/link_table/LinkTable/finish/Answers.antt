use Rattle.std.proofs.Common.{◌≡◌, ◌∙◌, sym, ap, true, false, Bool, refl}
use Rattle.flat_scene.specs.declared.frames.SessionSet.{SessionSet}
use Rattle.flat_topology.specs.Members.{is_member}
use Rattle.flat_facts.specs.Told.{TellsTheSame}
use Rattle.flat_facts.specs.Begins.{finished}
use Rattle.flat_links.proofs.Untold.{tells-the-same}
use Rattle.flat_links.proofs.link_table.LinkTable.finish.Goals as goal
use Rattle.flat_links.proofs.link_table.LinkTable.finish.Goals.{then-ratio_changes, else-ratio_changes}

pub returns-clause-others : goal.returns-clause-others
returns-clause-others c h line s legal tied ratio some few out = by_all c.if-ratio_changes.hearers refl
  where
    by_all : (b : Bool) → c.if-ratio_changes.hearers ≡ b → TellsTheSame c.args.setup.now h (finished h line) s
    by_all true all = let wrong : true ≡ false = sym (c.hearers.ensures.all s.0 all some few) ∙ out in cc
    by_all false none = elim c.if-ratio_changes.branch [
      | then-ratio_changes w ↦
          (let wrong : false ≡ true = sym none ∙ w.hearers-is ∙ w.if-ratio_changes.true in cc)
      | else-ratio_changes w ↦
          (let unheard : is_member c.heard-heard.result s.0 ≡ false = sym (ap (λ (set : SessionSet). is_member set s.0) (c.hearers.ensures.heard none)) ∙ out in
          tells-the-same c.args.setup.now h line legal c.args.self.now.linked_sessions.items c.args.self.now.pairs.items tied
          (c.may_tell-tells.ensures (sym w.hearers-is ∙ none)) (ratio w.if-ratio_changes.false) s
          (λ i d below owner. c.heard-heard.ensures i d s below owner some few unheard))
    ]
