-- what the two loops over whole texts keep
use Rattle.std.proofs.Common.{◌≡◌, ℕ, ◌+◌, ◌-◌, ◌<◌, ◌≤◌, List, ◌++◌, Option, None, Some, length, take, drop, sym, ◌∙◌, ap, append_assoc}
use Rattle.std.proofs.Math.Seq.{take-add, take-length}
use Rattle.std.proofs.lemmas.List.{length-drop}
use Rattle.flat_io.specs.Told.{WhereTold, Appends}
use Rattle.flat_io.specs.Reads.{Takes, Given}

-- a text is being read: the bytes so far are what was given, each by one read at most, of which none failed
pub record Reading (left left' : Option (List ℕ)) (text : List ℕ) (limit failed failed' made made' buffer : ℕ) : Type 0 where
  pub within : length text ≤ limit
  pub given : WhereTold left left' (λ before after. before ≡ text ++ after)
  pub faults : failed' ≡ failed
  pub reads : made' ≤ made + length text
  pub room : 0 < buffer

-- a text is being written: so many bytes of it stand behind what was held, each write took one at least, and none failed
pub record Writing (held held' : Option (List ℕ)) (text : List ℕ) (done failed failed' stalled stalled' made made' : ℕ) : Type 0 where
  pub short : done ≤ length text
  pub written : WhereTold held held' (λ before after. after ≡ before ++ take done text)
  pub faults : failed' ≡ failed
  pub stalls : stalled' ≡ stalled
  pub writes : made' ≤ made + done

-- one read more: what it took stands behind what was given before
pub given-more : (left now left' : Option (List ℕ)) (text buffer : List ℕ) (count : ℕ) (P : List ℕ → Type 0) →
    WhereTold left now (λ before after. before ≡ text ++ after) → Takes count buffer now left' → P (text ++ take count buffer) →
    Given left left' (λ given _. P given)
given-more left now None text buffer count P was took holds = tt
given-more left None (Some after) text buffer count P was took holds = absurd took
given-more None (Some middle) (Some after) text buffer count P was took holds = absurd was
given-more (Some before) (Some middle) (Some after) text buffer count P was took holds =
    (text ++ take count buffer, was ∙ ap (λ m. text ++ m) took ∙ sym (append_assoc text (take count buffer) after), holds)

-- what a program slices off from a place on is all that is left there
pub rest-whole : (text : List ℕ) (done : ℕ) → take (length text - done) (drop done text) ≡ drop done text
rest-whole text done = ap (λ k. take k (drop done text)) (sym (length-drop done text)) ∙ take-length (drop done text)

-- one write more: the bytes that it took stand behind those written before
pub written-more : (held now held' : Option (List ℕ)) (text : List ℕ) (done count : ℕ) →
    WhereTold held now (λ before after. after ≡ before ++ take done text) → Appends (take count (drop done text)) now held' →
    WhereTold held held' (λ before after. after ≡ before ++ take (done + count) text)
written-more held now None text done count was took = tt
written-more held None (Some after) text done count was took = absurd took
written-more None (Some middle) (Some after) text done count was took = absurd was
written-more (Some before) (Some middle) (Some after) text done count was took =
    took ∙ ap (λ m. m ++ take count (drop done text)) was ∙ append_assoc before (take done text) (take count (drop done text))
    ∙ ap (λ m. before ++ m) (sym (take-add done count text))
