-- The fence lists of a present in the code, as they are read word by word.
use Rattle.std.specs.Prelude.{◌≡◌, Bool, true, ◌&&◌, List, [], Ok, codes, if◌then◌else◌}
use Rattle.std.specs.List.{list_any, before_first, after_first}
use Rattle.std.specs.Str.{bytes_eq}
use Rattle.flat_base.specs.declared.ids.FenceNo.{FenceNo}
use Rattle.flat_places.specs.declared.word_cursor.WordCursor.{WordCursor}
use Rattle.flat_places.specs.Forms.{Word, Reading}
use Rattle.flat_places.specs.Reads.{sofar, lower, giving, left}

-- a word that ends the list before it, where a list may follow
abbrev pub ends_list : Bool → Word → Bool
ends_list follows w = follows && bytes_eq w (codes "release")

-- a list was read: the words up to its end were taken, those from there on are left
pub record ReadsList (reading : List Word → Reading (List FenceNo)) (follows : Bool) (old new : WordCursor)
    (found : List FenceNo) : Type 0 where
  pub read : lower (sofar old) (reading (before_first (ends_list follows) (left old))) ≡ giving found (sofar new)
  pub stops : before_first (ends_list follows) (left new) ≡ []
  pub more : list_any (ends_list follows) (left new) ≡ list_any (ends_list follows) (left old)
  pub behind : after_first (ends_list follows) (left new) ≡ after_first (ends_list follows) (left old)

-- a list behind the end of another, if one stands there, to the end of the line
abbrev pub behind_end : (List Word → Reading (List FenceNo)) → List Word → Reading (List FenceNo) × List Word
behind_end reading words = (
  if list_any (ends_list true) words then reading (after_first (ends_list true) words) else
      Ok [],
  [],
)
