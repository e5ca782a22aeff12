-- Reasons in other calls than those of specs/Reasons, which reason decides among several, and what is no misuse.
use Rattle.std.proofs.Common.{◌≡◌, ◌+◌, ◌*◌, ℕ, ℤ, zero, suc, pos, negsuc, List, [], ◌∷◌, ◌++◌, Option, Some, None, refl}
use Rattle.std.specs.Prelude.{replicate}
use Rattle.flat_base.specs.declared.errors.Reason.{Reason}
use Rattle.flat_base.specs.declared.errors.Reason.TheVariants.{ZeroId, UnknownTransform, BadScale, BadOpacity, BadRect, BadSize, NoView, TokenNotHeld}
use Rattle.flat_base.specs.declared.errors.Reason.TheVariants.{TreeTooLarge, ViewportTwice, TooManyNamed, TooManyChildren, TooManyFences}
use Rattle.flat_base.specs.declared.ids.BufferNo.{BufferNo}
use Rattle.flat_base.specs.declared.ids.TransformId.{TransformId}
use Rattle.flat_base.specs.declared.shapes.IntRect.{IntRect}
use Rattle.flat_scene.specs.declared.calls.Call.{Call}
use Rattle.flat_scene.specs.declared.calls.Call.TheVariants as call
use Rattle.flat_scene.specs.declared.calls.Interaction.TheVariants.{Default}
use Rattle.flat_scene.specs.declared.script.SessionLine.TheVariants as line
use Rattle.flat_scene.specs.Draft.{empty_draft, no_inset}
use Rattle.flat_examples.specs.Words.{f, p, t, c, present}
use Rattle.flat_examples.specs.Reasons.{Case, refused_for, line_after, call_after, present_after, transforms, image, names, with_viewport}

-- the reason for which a call, or a present, is refused after some calls
abbrev refused : List Call → Call → Option Reason
refused calls next = refused_for (call_after calls next)

abbrev unshown : List Call → Option Reason
unshown calls = refused_for (present_after calls)

-- ---- the lowest number decides

abbrev b0 : BufferNo
b0 = record { 0 = 0 }

-- a zero id, a bad size and a bad index; a bad size and a bad index; an unknown name and a bad scale
zero_before_size : refused [] (call.CreateImage (c 0) b0 2 9 9) ≡ Some ZeroId
zero_before_size = refl

size_before_buffer : refused [] (call.CreateImage (c 1) b0 2 9 9) ≡ Some BadSize
size_before_buffer = refl

name_before_scale : refused [] (call.SetScale (t 1) 0 0) ≡ Some UnknownTransform
name_before_scale = refl

-- ---- what is no misuse

-- 0 unsets a root, and takes a content away
root_of_none : refused [] (call.SetRootTransform (t 0)) ≡ None
root_of_none = refl

content_of_none : refused (transforms 1) (call.SetContent (t 1) (c 0)) ≡ None
content_of_none = refl

-- ids of transforms and of contents are separate, and an id that is released is free
same_id_of_a_content : refused (call.CreateFilledRect (c 1) ∷ []) (call.CreateTransform (t 1)) ≡ None
same_id_of_a_content = refl

id_made_again : refused (transforms 1 ++ call.ReleaseTransform (t 1) ∷ []) (call.CreateTransform (t 1)) ≡ None
id_made_again = refl

-- children may be replaced by themselves
same_children : refused (transforms 2 ++ call.AddChild (t 1) (t 2) ∷ []) (call.ReplaceChildren (t 1) (t 2 ∷ [])) ≡ None
same_children = refl

-- a cycle that the root doesn't reach may be presented
cycle_beside_the_root : unshown (transforms 2 ++ call.AddChild (t 2) (t 2) ∷ call.SetRootTransform (t 1) ∷ []) ≡ None
cycle_beside_the_root = refl

nothing_is_presented : unshown [] ≡ None
nothing_is_presented = refl

clear_of_nothing : refused [] call.Clear ≡ None
clear_of_nothing = refl

-- ---- numbers: B8 to B11

scale_of_0 : refused (transforms 1) (call.SetScale (t 1) 65536 0) ≡ Some BadScale
scale_of_0 = refl

image_opacity : refused image (call.SetImageOpacity (c 1) 65537) ≡ Some BadOpacity
image_opacity = refl

abbrev rect : ℤ → ℤ → IntRect
rect x w = record { x = x; y = pos 0; w = w; h = pos 8 }

-- an end at 2^31 - 1 is the last that is fine
end_too_far : refused (transforms 1) (call.SetClipBoundary (t 1) (Some (rect (pos 2147483647) (pos 1)))) ≡ Some BadRect
end_too_far = refl

end_just_there : refused (transforms 1) (call.SetClipBoundary (t 1) (Some (rect (pos 2147483646) (pos 1)))) ≡ None
end_just_there = refl

-- a clip may begin left of 0, and a sample may not; nor may it end beyond its image
clip_left_of_0 : refused (transforms 1) (call.SetClipBoundary (t 1) (Some (rect (negsuc 0) (pos 1)))) ≡ None
clip_left_of_0 = refl

sample_left_of_0 : refused image (call.SetImageSampleRegion (c 1) (rect (negsuc 0) (pos 1))) ≡ Some BadRect
sample_left_of_0 = refl

sample_too_wide : refused image (call.SetImageSampleRegion (c 1) (rect (pos 1) (pos 8))) ≡ Some BadRect
sample_too_wide = refl

whole_sample : refused image (call.SetImageSampleRegion (c 1) (rect (pos 0) (pos 8))) ≡ None
whole_sample = refl

region_without_width : refused (transforms 1) (call.SetHitRegions (t 1) ((record { area = Some (rect (pos 0) (pos 0)); interaction = Default }) ∷ []))
    ≡ Some BadRect
region_without_width = refl

fill_of_65537 : refused (call.CreateFilledRect (c 1) ∷ []) (call.SetSolidFill (c 1) 0 0 0 0 65537 1) ≡ Some BadSize
fill_of_65537 = refl

fill_of_65536 : refused (call.CreateFilledRect (c 1) ∷ []) (call.SetSolidFill (c 1) 0 0 0 0 65536 1) ≡ None
fill_of_65536 = refl

viewport_of_0 : refused [] (call.CreateViewport (c 1) (p 1) 10 0 no_inset) ≡ Some BadSize
viewport_of_0 = refl

-- ---- ends: B15 and B16

no_view_to_release : refused [] call.ReleaseView ≡ Some NoView
no_view_to_release = refl

abbrev again : ℕ → Call
again height = call.CreateViewport (c 2) (p 1) 10 height no_inset

viewport_in_use : refused_for (line_after with_viewport [] (line.Call (again 10))) ≡ Some TokenNotHeld
viewport_in_use = refl

-- released, and not back yet
viewport_not_back : refused_for (line_after with_viewport (call.ReleaseViewport (c 1) ∷ []) (line.Call (again 10))) ≡ Some TokenNotHeld
viewport_not_back = refl

-- a misuse decides before the token
size_before_token : refused_for (line_after with_viewport [] (line.Call (again 0))) ≡ Some BadSize
size_before_token = refl

-- ---- trees: B18 and B19

-- Each level has two transforms, and each of them has both of the next level below it. With n levels, one of the first unfolds to 2^n - 1 nodes.
abbrev level : ℕ → List Call
level n = call.CreateTransform (t (2 * n)) ∷ call.CreateTransform (t (2 * n + 1)) ∷ []

abbrev under : ℕ → ℕ → List Call
under parent n = call.AddChild (t parent) (t (2 * n)) ∷ call.AddChild (t parent) (t (2 * n + 1)) ∷ []

abbrev doubled : ℕ → List Call
doubled zero = []
doubled (suc zero) = level 1
doubled (suc (suc n)) = doubled (suc n) ++ level (suc (suc n)) ++ under (2 * suc n) (suc (suc n)) ++ under (2 * suc n + 1) (suc (suc n))

-- nine levels below a transform, which is below the root: 2 * 511 + 2 nodes
abbrev nodes_1024 : List Call
nodes_1024 =
    doubled 9 ++ call.CreateTransform (t 20) ∷ under 20 1
    ++ call.CreateTransform (t 21) ∷ call.AddChild (t 21) (t 20) ∷ call.SetRootTransform (t 21) ∷ []

tree_of_1024 : unshown nodes_1024 ≡ None
tree_of_1024 = refl

tree_of_1025 : unshown (nodes_1024 ++ call.CreateTransform (t 22) ∷ call.AddChild (t 21) (t 22) ∷ []) ≡ Some TreeTooLarge
tree_of_1025 = refl

-- one transform holds the viewport, and two paths lead to it
abbrev two_paths : List Call
two_paths =
    call.CreateTransform (t 3) ∷ call.CreateTransform (t 4) ∷ call.AddChild (t 1) (t 3) ∷ call.AddChild (t 2) (t 4) ∷ call.AddChild (t 3) (t 4)
    ∷ call.SetContent (t 4) (c 1) ∷ []

viewport_on_two_paths : refused_for (line_after with_viewport two_paths (line.Present (present [] []))) ≡ Some ViewportTwice
viewport_on_two_paths = refl

-- ---- counts: B20 to B22

abbrev among_contents : Call → Case
among_contents next = record { before = []; draft = record empty_draft { content_names = names 1024 }; text = line.Call next }

contents_1024 : refused_for (among_contents (call.CreateFilledRect (c 1025))) ≡ Some TooManyNamed
contents_1024 = refl

-- names of contents don't count among those of transforms
transform_beside_contents : refused_for (among_contents (call.CreateTransform (t 1025))) ≡ None
transform_beside_contents = refl

abbrev listed : ℕ → List TransformId
listed zero = []
listed (suc n) = t (suc n) ∷ listed n

replaced_by_65 : refused (transforms 65) (call.ReplaceChildren (t 1) (listed 65)) ≡ Some TooManyChildren
replaced_by_65 = refl

replaced_by_64 : refused (transforms 65) (call.ReplaceChildren (t 1) (listed 64)) ≡ None
replaced_by_64 = refl

release_fences_17 : refused_for (line_after [] [] (line.Present (present [] (replicate 17 (f 0))))) ≡ Some TooManyFences
release_fences_17 = refl

-- 16 in each list are fine
fences_of_both_lists : refused_for (line_after [] [] (line.Present (present (replicate 16 (f 0)) (replicate 16 (f 0))))) ≡ None
fences_of_both_lists = refl
