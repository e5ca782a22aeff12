-- One test behind others: the first reason of all, by that of the others.
use Rattle.std.proofs.Common.{◌≡◌, List, ◌++◌, Ok, Err, sym, subst}
use Rattle.std.specs.Prelude.{Result, IfErr}
use Rattle.std.specs.Result.{IsErrAnd}
use Rattle.flat_scene.specs.declared.trees.GraphFault.{GraphFault}
use Rattle.flat_scene.specs.declared.trees.GraphFault.TheVariants.{Bad, Memory}
use Rattle.flat_scene.specs.Misuse.{Test}
use Rattle.flat_scene.proofs.lemmas.FirstReasons.{refused_before}
use Rattle.flat_graph.specs.Reasons.{IsFault, IsMisuse}

-- an answer that hands a refusal on
misuse_before : (tests more : List Test) (fault : GraphFault) → IsMisuse tests fault → IsMisuse (tests ++ more) fault
misuse_before tests more (Bad reason) e = refused_before tests more reason e
misuse_before tests more Memory e = e

pub hands_on : {T : Type 0} (answer : Result T GraphFault) (tests more : List Test) (fault : GraphFault) → IsErrAnd answer (λ given. given ≡ fault)
    → IsMisuse tests fault
    → IfErr answer (IsMisuse (tests ++ more))
hands_on (Ok done) tests more fault is e = tt
hands_on (Err given) tests more fault is e = misuse_before tests more given (subst (IsMisuse tests) (sym is) e)

pub hands_fault_on : {T : Type 0} (answer : Result T GraphFault) (tests more : List Test) (fault : GraphFault) → IsErrAnd answer (λ given. given ≡ fault)
    → IsMisuse tests fault
    → IfErr answer (IsFault (tests ++ more))
hands_fault_on (Ok done) tests more fault is e = tt
hands_fault_on (Err (Bad reason)) tests more fault is e = misuse_before tests more (Bad reason) (subst (IsMisuse tests) (sym is) e)
hands_fault_on (Err Memory) tests more fault is e = absurd (subst (IsMisuse tests) (sym is) e)
