-- Values that watchers tell, and when one is news.
use Rattle.std.specs.Prelude.{Bool, true, false, cond, ◌&&◌, ◌==◌, Option, Some, None, is_some}
use Rattle.std.specs.Option.{option_or}
use Rattle.flat_scene.specs.declared.calls.Watch.{Watch}
use Rattle.flat_scene.specs.declared.journal.Layout.{Layout}
use Rattle.flat_scene.specs.declared.journal.WatcherValue.{WatcherValue}
use Rattle.flat_scene.specs.declared.journal.WatcherValue.TheVariants as tell

-- whether two layouts are the same, and two values
abbrev pub same_layout : Layout → Layout → Bool
same_layout a b =
    a.w == b.w && a.h == b.h && a.ratio == b.ratio
    && a.inset.top == b.inset.top && a.inset.right == b.inset.right && a.inset.bottom == b.inset.bottom
    && a.inset.left == b.inset.left

abbrev pub same_told : WatcherValue → WatcherValue → Bool
same_told (tell.Layout a) (tell.Layout b) = same_layout a b
same_told tell.Connected tell.Connected = true
same_told tell.Disconnected tell.Disconnected = true
same_told tell.HasPresented tell.HasPresented = true
same_told tell.Gone tell.Gone = true
same_told _ _ = false

-- The value that a watcher answered last, and the get that it holds.
pub record Watching : Type 0 where
  pub last : Option WatcherValue
  pub waits : Option Watch

-- the value to answer where another was answered last: the one told, where it is there and differs
abbrev pub news : Option WatcherValue → Option WatcherValue → Option WatcherValue
news now None = now
news None (Some last) = None
news (Some now) (Some last) = cond (same_told now last) None (Some now)

-- a get joins, and is held until it is answered
abbrev pub asking : Option Watch → Watching → Watching
asking get w = record w { waits = option_or w.waits get }

-- the answer to the held get
abbrev pub answer : Option WatcherValue → Watching → Option WatcherValue
answer now w = cond (is_some w.waits) (news now w.last) None

-- the watcher after it answered
abbrev pub answered_by : Option WatcherValue → Watching → Watching
answered_by (Some value) w = record { last = Some value; waits = None }
answered_by None w = w

-- the held get is answered where its session listens and there is news
abbrev pub settled : Bool → Option WatcherValue → Watching → Watching
settled listens now w = cond listens (answered_by (answer now w) w) w
