-- The bytes of texts whose lines are all plain.
use Rattle.std.specs.Prelude.{ℕ, Bool, ◌||◌}
use Rattle.flat_text.specs.Pieces.{is_feed}
use Rattle.flat_script.specs.Grammar.{is_plain}

-- a byte that a line may have, or a line feed
abbrev pub is_text_byte : ℕ → Bool
is_text_byte b = is_plain b || is_feed b
