use Rattle.std.proofs.Common.{rules, ap, ◌≡◌, ◌∙◌, codes, is_some, sym, option_map, true≢false, unwrap_or, Some, None}
use Rattle.clap.specs.Words.{Text, found_of, rows_of, subcommand_rows_of}
use Rattle.clap.proofs.WalkLemmas.{first_value-rows}
use Rattle.flat_words.specs.declared.service_word.ServiceWord.TheVariants.{Stress}
use Rattle.flat_words.proofs.Calls.{told, load_only, load_form}
use Rattle.flat_words.proofs.service_word.named_form.Goals as goal

pub returns-in_err-get_str-in-stress-clause-only :
    goal.returns-in_err-get_str-in-stress-clause-only
returns-in_err-get_str-in-stress-clause-only c form named =
    let name_is : c.in_ok-name.name.now ≡ codes "stress" = search rules in
    let call_is : subcommand_rows_of c.args.matches.now ≡ Some (c.in_ok-name.name.now, rows_of (found_of c.in_ok-name.given.now)) =
    told _ _ _ _ _ c.in_ok-name.ensures.name c.in_ok-name.ensures.rows in
    let none : option_map (λ s. s.now) c.get_str.result ≡ None = ap (option_map (λ s. s.now)) c.in_err-get_str-in-stress.was in
    let load = load_only _ _ _ (call_is ∙ ap (λ (t : Text). Some (t, rows_of (found_of c.in_ok-name.given.now))) name_is)
    (sym (first_value-rows (found_of c.in_ok-name.given.now) (codes "frames")) ∙ sym c.get_str.ensures ∙ none) form named in
    absurd (true≢false (sym (ap is_some load.2)))

pub returns-in_err-read_frames-in-stress-clause-only :
    goal.returns-in_err-read_frames-in-stress-clause-only
returns-in_err-read_frames-in-stress-clause-only c form named =
    let name_is : c.in_ok-name.name.now ≡ codes "stress" = search rules in
    let call_is : subcommand_rows_of c.args.matches.now ≡ Some (c.in_ok-name.name.now, rows_of (found_of c.in_ok-name.given.now)) =
    told _ _ _ _ _ c.in_ok-name.ensures.name c.in_ok-name.ensures.rows in
    let word : option_map (λ s. s.now) c.get_str.result ≡ Some c.in_ok-get_str-in-stress.field-0.now =
    ap (option_map (λ s. s.now)) c.in_ok-get_str-in-stress.was in
    let load = load_only _ _ _ (call_is ∙ ap (λ (t : Text). Some (t, rows_of (found_of c.in_ok-name.given.now))) name_is)
    (sym (first_value-rows (found_of c.in_ok-name.given.now) (codes "frames")) ∙ sym c.get_str.ensures ∙ word) form named in
    let refused = c.in_err-read_frames-in-stress.ensures.only load.0 (sym (ap (λ o. unwrap_or o c.in_ok-get_str-in-stress.field-0.now) load.2)) load.3 load.4 in
    absurd (true≢false (sym (ap is_some refused)))

pub returns-in_ok-read_frames-in-stress-clause-form :
    goal.returns-in_ok-read_frames-in-stress-clause-form
returns-in_ok-read_frames-in-stress-clause-form c =
    let name_is : c.in_ok-name.name.now ≡ codes "stress" = search rules in
    let call_is : subcommand_rows_of c.args.matches.now ≡ Some (c.in_ok-name.name.now, rows_of (found_of c.in_ok-name.given.now)) =
    told _ _ _ _ _ c.in_ok-name.ensures.name c.in_ok-name.ensures.rows in
    let word : option_map (λ s. s.now) c.get_str.result ≡ Some c.in_ok-get_str-in-stress.field-0.now =
    ap (option_map (λ s. s.now)) c.in_ok-get_str-in-stress.was in
    let read = c.in_ok-read_frames-in-stress.ensures.text in
    load_form _ _ _ _ (call_is ∙ ap (λ (t : Text). Some (t, rows_of (found_of c.in_ok-name.given.now))) name_is)
    (sym (first_value-rows (found_of c.in_ok-name.given.now) (codes "frames")) ∙ sym c.get_str.ensures ∙ word) read.0 read.1 read.2

pub returns-in_ok-read_frames-in-stress-clause-only :
    goal.returns-in_ok-read_frames-in-stress-clause-only
returns-in_ok-read_frames-in-stress-clause-only c form named =
    let name_is : c.in_ok-name.name.now ≡ codes "stress" = search rules in
    let call_is : subcommand_rows_of c.args.matches.now ≡ Some (c.in_ok-name.name.now, rows_of (found_of c.in_ok-name.given.now)) =
    told _ _ _ _ _ c.in_ok-name.ensures.name c.in_ok-name.ensures.rows in
    let word : option_map (λ s. s.now) c.get_str.result ≡ Some c.in_ok-get_str-in-stress.field-0.now =
    ap (option_map (λ s. s.now)) c.in_ok-get_str-in-stress.was in
    let load = load_only _ _ _ (call_is ∙ ap (λ (t : Text). Some (t, rows_of (found_of c.in_ok-name.given.now))) name_is)
    (sym (first_value-rows (found_of c.in_ok-name.given.now) (codes "frames")) ∙ sym c.get_str.ensures ∙ word) form named in
    let same = c.in_ok-read_frames-in-stress.ensures.only load.0 (sym (ap (λ o. unwrap_or o c.in_ok-get_str-in-stress.field-0.now) load.2)) load.3 load.4 in
    ap (option_map Stress) same ∙ ap Some (sym load.1)
