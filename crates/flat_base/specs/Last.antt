-- the end of a list
use Rattle.std.specs.Prelude.{◌-◌, List, Option, length, slice_get}

-- the last item, if there is one
abbrev pub last_item : {T : Type 0} → List T → Option T
last_item items = slice_get items (length items - 1)
