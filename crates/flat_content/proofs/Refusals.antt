-- One test behind others: the first reason of all, by that of the others.
use Rattle.std.proofs.Common.{◌≡◌, ℕ, List, ◌++◌, Option, Some, Ok, Err, sym, ap, ◌∙◌}
use Rattle.std.specs.Prelude.{Result, IfErr}
use Rattle.std.specs.Result.{IsErrAnd}
use Rattle.std.specs.Option.{option_and_then, option_map}
use Rattle.flat_base.specs.declared.errors.Reason.{Reason}
use Rattle.flat_base.specs.declared.shapes.IntRect.{IntRect}
use Rattle.flat_scene.specs.Draft.{of_serial}
use Rattle.flat_scene.specs.Misuse.{Test, first_reason, leaves, leaves_made}
use Rattle.flat_scene.proofs.lemmas.FirstReasons.{refused_before}
use Rattle.flat_graph.specs.Names.{key_named}
use Rattle.flat_content.specs.declared.stored_content.StoredContent.{StoredContent}
use Rattle.flat_content.specs.declared.stored_content.StoredImage.{StoredImage}
use Rattle.flat_content.specs.declared.stored_content.StoredContent.TheVariants.{Image}
use Rattle.flat_content.specs.Table.{TableState, as_made, made_at, made_named}

-- an answer that hands a refusal on
pub hands_on : (answer : Result (Unit {0}) Reason) (tests more : List Test) (reason : Reason) → IsErrAnd answer (λ given. given ≡ reason)
    → first_reason tests ≡ Some reason
    → IfErr answer (λ given. first_reason (tests ++ more) ≡ Some given)
hands_on (Ok done) tests more reason is e = tt
hands_on (Err given) tests more reason is e = refused_before tests more given (e ∙ ap Some (sym is))

-- whether a rectangle leaves the image that an id names, read off that image
pub leaves_stored : (table : TableState) (id serial : ℕ) (image : StoredImage) (rect : IntRect) → key_named table.names id ≡ Some serial
    → of_serial table.contents serial ≡ Some (Image image)
    → leaves_made rect (made_named table id) ≡ leaves rect image.size
leaves_stored table id serial image rect named stored =
    ap (λ (s : Option ℕ). leaves_made rect (option_and_then (made_at table) s)) named
    ∙ ap (λ (s : Option StoredContent). leaves_made rect (option_map as_made s)) stored
