-- what std says of a stream's bytes, where they are told at any time or never
use Rattle.std.proofs.Common.{◌≡◌, ℕ, Bool, true, false, List, [], take, Option, None, Some, refl, sym, ap, ◌∙◌}
use Rattle.std.specs.Prelude.{is_some}
use Rattle.std.specs.Io.KnownBytes.{Keeps, Consumes, IsAtEnd, Appends as Grows}
use Rattle.flat_io.specs.Told.{WhereTold, Appends}
use Rattle.flat_io.specs.Reads.{Takes}

no_both : {P : Type 0} (tells : Bool) → false ≡ tells → true ≡ tells → P
no_both tells never always = absurd (let wrong : false ≡ true = never ∙ sym always in cc)

pub keeps-told : (tells : Bool) (old new : Option (List ℕ)) → is_some old ≡ tells → is_some new ≡ tells → Keeps old new → new ≡ old
keeps-told tells None None was is keeps = refl
keeps-told tells None (Some ys) was is keeps = no_both tells was is
keeps-told tells (Some xs) None was is keeps = absurd keeps
keeps-told tells (Some xs) (Some ys) was is keeps = ap Some keeps

pub takes-told : (tells : Bool) (old new : Option (List ℕ)) (count : ℕ) (buffer : List ℕ) → is_some old ≡ tells → is_some new ≡ tells
    → Consumes old new (take count buffer) → Takes count buffer old new
takes-told tells None None count buffer was is took = tt
takes-told tells None (Some ys) count buffer was is took = no_both tells was is
takes-told tells (Some xs) None count buffer was is took = absurd took
takes-told tells (Some xs) (Some ys) count buffer was is took = took

pub end-told : (tells : Bool) (old new : Option (List ℕ)) → is_some old ≡ tells → is_some new ≡ tells → IsAtEnd new → WhereTold old new (λ _ after. after ≡ [])
end-told tells None None was is end = tt
end-told tells None (Some ys) was is end = no_both tells was is
end-told tells (Some xs) None was is end = tt
end-told tells (Some xs) (Some ys) was is end = end

pub appends-told : (tells : Bool) (old new : Option (List ℕ)) (bytes : List ℕ) → is_some old ≡ tells → is_some new ≡ tells → Grows old new bytes
    → Appends bytes old new
appends-told tells None None bytes was is grows = tt
appends-told tells None (Some ys) bytes was is grows = no_both tells was is
appends-told tells (Some xs) None bytes was is grows = absurd grows
appends-told tells (Some xs) (Some ys) bytes was is grows = grows
