use Rattle.std.proofs.Common.{rules, ◌≡◌, [], ◌∷◌, map, arith}
use Rattle.std.specs.String.{string_bytes}
use Rattle.flat_words.specs.declared.service_word.ServiceWord.TheVariants.{Play}
use Rattle.flat_words.specs.Forms.{words_of}
use Rattle.flat_call_tests.proofs.Told.{play_told}
use Rattle.flat_call_tests.proofs.slices.play_slice.Goals as goal

pub returns : goal.returns
returns g c = λ is_0.
    let play : map string_bytes c.from_ref-words.result.now ≡ words_of Play = search rules in
    let script : c.new-source.result.inner.now ≡ c.args.script.now = search rules in
    let empty : c.new-sink.result.inner.items ≡ [] = search rules in
    let held : c.into_inner.result.items ≡ c.flatland-status.new.sink.inner.items = search rules in
    play_told _ _ _ _ _ _ _ play _ script _ empty _ _ held c.flatland-status.result is_0
    (c.flatland-status.ensures.serves.whole (λ is. omega (arith, is, is_0)) (λ is. omega (arith, is, is_0)) (λ is. omega (arith, is, is_0)))
