-- The lines of the head, as steps that may change places.
use Rattle.std.proofs.Common.{◌≡◌, ℕ, true, false, ◌&&◌, nat_lt, List, [], ◌∷◌, length, Some, Ok, refl, codes}
use Rattle.std.specs.Str.{bytes_eq}
use Rattle.flat_scene.specs.declared.setup.PairDecl.{PairDecl}
use Rattle.flat_scene.specs.declared.setup.BufferDecl.{BufferDecl}
use Rattle.flat_scene.specs.declared.setup.FenceDecl.{FenceDecl}
use Rattle.flat_places.specs.declared.script.Script.{Script}
use Rattle.flat_places.specs.Forms.{Word, whole, one_or_more}
use Rattle.flat_places.specs.Names.{session_named, owner_named}
use Rattle.flat_places.specs.Places.{number_from, owner_word, has_display_pair}
use Rattle.flat_forms.specs.Head.{head_line, side, size, has_display, with_display, with_session, with_probe, with_buffers, with_pair, with_fence}
use Rattle.flat_forms.proofs.lemmas.IndexLemmas.{IsFresh}

pub record SizeStep (u : Script) (ws : List Word) (t : Script) : Type 0 where
  pub rest : List Word
  pub w : ℕ
  pub h : ℕ
  pub q : ℕ
  pub begins : ws ≡ codes "display" ∷ rest
  pub first : has_display u ≡ false
  pub read : whole (size u.version) rest ≡ Ok (w, h, q)
  pub made : t ≡ with_display u w h q

pub record SessionStep (u : Script) (ws : List Word) (t : Script) : Type 0 where
  pub name : Word
  pub begins : ws ≡ codes "session" ∷ name ∷ []
  pub room : nat_lt (length u.sessions) 16 ≡ true
  pub fresh : IsFresh u name
  pub made : t ≡ with_session u name

pub record ProbeStep (u : Script) (ws : List Word) (t : Script) : Type 0 where
  pub name : Word
  pub begins : ws ≡ codes "probe" ∷ name ∷ []
  pub room : nat_lt (length u.probes) 8 ≡ true
  pub fresh : IsFresh u name
  pub made : t ≡ with_probe u name

pub record BuffersStep (u : Script) (ws : List Word) (t : Script) : Type 0 where
  pub name : Word
  pub owner : Word
  pub a : Word
  pub b : Word
  pub c : Word
  pub decl : BufferDecl
  pub begins : ws ≡ codes "buffers" ∷ name ∷ owner ∷ a ∷ b ∷ c ∷ []
  pub room : nat_lt (length u.buffers) 256 ≡ true
  pub fresh : IsFresh u name
  pub owned : session_named u owner ≡ Some decl.owner
  pub count : (number_from 1 64 (a ∷ [])).0 ≡ Ok decl.count
  pub width : (side (b ∷ [])).0 ≡ Ok decl.w
  pub height : (side (c ∷ [])).0 ≡ Ok decl.h
  pub made : t ≡ with_buffers u name decl

pub record PairStep (u : Script) (ws : List Word) (t : Script) : Type 0 where
  pub name : Word
  pub x : Word
  pub y : Word
  pub decl : PairDecl
  pub begins : ws ≡ codes "pair" ∷ name ∷ x ∷ y ∷ []
  pub room : nat_lt (length u.pairs) 4096 ≡ true
  pub fresh : IsFresh u name
  pub single : (bytes_eq x (codes "display") && has_display_pair u) ≡ false
  pub viewport : owner_named u x ≡ Some decl.viewport
  pub view : session_named u y ≡ Some decl.view
  pub made : t ≡ with_pair u name decl

pub record FenceStep (u : Script) (ws : List Word) (t : Script) : Type 0 where
  pub name : Word
  pub rest : List Word
  pub decl : FenceDecl
  pub begins : ws ≡ codes "fence" ∷ name ∷ rest
  pub room : nat_lt (length u.fences) 4096 ≡ true
  pub fresh : IsFresh u name
  pub owners : one_or_more (owner_word u) rest ≡ Ok decl.owners
  pub made : t ≡ with_fence u name decl

-- what a step says is read

size_read : (u : Script) (ws : List Word) (t : Script) → SizeStep u ws t → head_line u ws ≡ Ok t
size_read u ws t s = rw (s.begins, s.made) (let first = s.first in let read = s.read in rw (first, read) refl)

session_read : (u : Script) (ws : List Word) (t : Script) → SessionStep u ws t → head_line u ws ≡ Ok t
session_read u ws t s = rw (s.begins, s.made) (let room = s.room in let name = s.fresh.name in let fresh = s.fresh.fresh in rw (room, name, fresh) refl)

probe_read : (u : Script) (ws : List Word) (t : Script) → ProbeStep u ws t → head_line u ws ≡ Ok t
probe_read u ws t s = rw (s.begins, s.made) (let room = s.room in let name = s.fresh.name in let fresh = s.fresh.fresh in rw (room, name, fresh) refl)

buffers_read : (u : Script) (ws : List Word) (t : Script) → BuffersStep u ws t → head_line u ws ≡ Ok t
buffers_read u ws t s = rw (s.begins, s.made) (rw (s.room, s.fresh.name, s.fresh.fresh, s.owned, s.count, s.width, s.height) refl)

pair_read : (u : Script) (ws : List Word) (t : Script) → PairStep u ws t → head_line u ws ≡ Ok t
pair_read u ws t s = rw (s.begins, s.made) (rw (s.room, s.fresh.name, s.fresh.fresh, s.single, s.viewport, s.view) refl)

fence_read : (u : Script) (ws : List Word) (t : Script) → FenceStep u ws t → head_line u ws ≡ Ok t
fence_read u ws t s = rw (s.begins, s.made) (rw (s.room, s.fresh.name, s.fresh.fresh, s.owners) refl)

pub data Step (u : Script) (ws : List Word) (t : Script) : Type 0 where
  size_step : SizeStep u ws t → Step u ws t
  session_step : SessionStep u ws t → Step u ws t
  probe_step : ProbeStep u ws t → Step u ws t
  buffers_step : BuffersStep u ws t → Step u ws t
  pair_step : PairStep u ws t → Step u ws t
  fence_step : FenceStep u ws t → Step u ws t

-- the place of the line's sort in the canonical order
abbrev pub sort : {u : Script} {ws : List Word} {t : Script} → Step u ws t → ℕ
sort (size_step s) = 0
sort (session_step s) = 1
sort (probe_step s) = 2
sort (buffers_step s) = 3
sort (pair_step s) = 4
sort (fence_step s) = 5

pub step_read : (u : Script) (ws : List Word) (t : Script) → Step u ws t → head_line u ws ≡ Ok t
step_read u ws t (size_step s) = size_read u ws t s
step_read u ws t (session_step s) = session_read u ws t s
step_read u ws t (probe_step s) = probe_read u ws t s
step_read u ws t (buffers_step s) = buffers_read u ws t s
step_read u ws t (pair_step s) = pair_read u ws t s
step_read u ws t (fence_step s) = fence_read u ws t s
