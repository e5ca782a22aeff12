use Rattle.flat_scene.specs.declared.calls.Watch.TheVariants as watch
use Rattle.flat_scene.specs.declared.script.SessionLine.TheVariants as line
use Rattle.flat_forms.specs.Body.{child_asked}
use Rattle.flat_places.proofs.lemmas.ReadsLemmas.{begin, read_whole}
use Rattle.flat_forms.proofs.session_forms.get_child.Goals as goal

pub returns : goal.returns
returns c = read_whole child_asked c.new-places.ensures.words c.new-places.ensures.sofar (begin (λ d. line.Get (watch.Child d)) c.content-c.ensures)
    c.finish.ensures.reads
