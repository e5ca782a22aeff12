-- How a table stands for the contents of a draft.
use Rattle.std.specs.Prelude.{ℕ, ◌≡◌, map, length}
use Rattle.flat_scene.specs.declared.setup.Setup.{Setup}
use Rattle.flat_scene.specs.Draft.{Draft, named}
use Rattle.flat_graph.specs.Names.{key_named}
use Rattle.flat_graph.specs.Stands.{IsOnce}
use Rattle.flat_content.specs.Table.{TableState, IsSound, as_made}

-- a table has all contents of the draft, the same names, and the same viewports in use
pub record StandsFor (setup : Setup) (table : TableState) (draft : Draft) : Type 0 where
  pub sound : IsSound table
  pub buffers : table.buffers ≡ setup.buffers
  pub contents : map as_made table.contents ≡ draft.contents
  pub names : (id : ℕ) → key_named table.names id ≡ named draft.content_names id
  pub count : length table.names ≡ length draft.content_names
  pub once : IsOnce draft.content_names
  pub viewports : table.viewports ≡ draft.viewports
