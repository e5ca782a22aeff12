-- Who did what, and in which order, decides all replies and events.
use Rattle.std.proofs.Common.{◌≡◌, ◌∙◌, List, [], ◌∷◌, map, refl, sym, ap}
use Rattle.flat_base.specs.declared.ids.SessionNo.{SessionNo}
use Rattle.flat_scene.specs.declared.journal.Entry.{Entry}
use Rattle.flat_scene.specs.declared.journal.Reply.{Reply}
use Rattle.flat_scene.specs.declared.setup.Setup.{Setup}
use Rattle.flat_scene.specs.Family.{family, only}
use Rattle.flat_scene.specs.History.{◌▹◌}
use Rattle.flat_rules.specs.Determined.{but_line, but_reply, RepliesAreDetermined, but_moment_line, NeighboursChangeNothing}
use Rattle.flat_rules.specs.FamilyLaw.{Moment, moments, IsFamilyLaw}
use Rattle.flat_rules.specs.Legal.{Legal, LegalEntry, reply_to}
use Rattle.flat_rules.specs.AllPosts.{posts}
use Rattle.flat_rules.proofs.FamilyTheorem.{families-are-alone}
use Rattle.flat_rules.proofs.Lines.{lined}
use Rattle.flat_rules.proofs.LinesReplies.{events-lined, posts-lined, reply-lined}

-- what two entries share
shared-parts : (e e' : Entry) → but_reply e ≡ but_reply e' → e.reply ≡ e'.reply → but_line e ≡ but_line e'
shared-parts e e' same replies = λ i. record { actor = (same i).actor; line = 0; calls = (same i).calls; kind = (same i).kind; reply = replies i }

first-of : (x y : Entry) (xs ys : List Entry) → x ∷ xs ≡ y ∷ ys → x ≡ y
first-of x y xs ys same = cc

rest-of : (x y : Entry) (xs ys : List Entry) → x ∷ xs ≡ y ∷ ys → xs ≡ ys
rest-of x y xs ys same = cc

module _ (setup : Setup) where
  reply-same : (before before' : List Entry) (e e' : Entry) → lined before ≡ lined before' → but_reply e ≡ but_reply e' → LegalEntry setup before e
      → LegalEntry setup before' e' → e.reply ≡ e'.reply
  reply-same before before' e e' earlier same legal legal' =
      let asked : reply_to setup (lined before) e.actor e.calls e.kind ≡ reply_to setup (lined before') e'.actor e'.calls e'.kind =
      λ i. reply_to setup (earlier i) (same i).actor (same i).calls (same i).kind in
      legal.reply ∙ sym (reply-lined setup before e.actor e.calls e.kind) ∙ asked ∙ reply-lined setup before' e'.actor e'.calls e'.kind ∙ sym legal'.reply

  -- two such histories are equal but for lines
  pub alike-but-lines : (history history' : List Entry) → Legal setup history → Legal setup history' → map but_reply history ≡ map but_reply history'
      → lined history ≡ lined history'
  alike-but-lines [] [] legal legal' same = refl
  alike-but-lines [] (before' ▹ e') legal legal' same = cc
  alike-but-lines (before ▹ e) [] legal legal' same = cc
  alike-but-lines (before ▹ e) (before' ▹ e') legal legal' same =
      let one : but_reply e ≡ but_reply e' = first-of (but_reply e) (but_reply e') (map but_reply before) (map but_reply before') same in
      let earlier : lined before ≡ lined before' = alike-but-lines before before' legal.0 legal'.0
      (rest-of (but_reply e) (but_reply e') (map but_reply before) (map but_reply before') same) in
      let this : but_line e ≡ but_line e' = shared-parts e e' one (reply-same before before' e e' earlier one legal.1 legal'.1) in
      λ i. this i ∷ earlier i

  replies-lined : (h : List Entry) → map (λ entry. entry.reply) (lined h) ≡ map (λ entry. entry.reply) h
  replies-lined [] = refl
  replies-lined (before ▹ e) = ap (λ (l : List Reply). e.reply ∷ l) (replies-lined before)

  moments-lined : (t : SessionNo) (h : List Entry) → moments setup t (lined h) ≡ map but_moment_line (moments setup t h)
  moments-lined t [] = refl
  moments-lined t (before ▹ e) = λ i. (let m : Moment = record { entry = but_line e; events = events-lined setup before e t i } in m) ∷ moments-lined t before i

pub replies-are-determined : RepliesAreDetermined
replies-are-determined setup history history' legal legal' same =
    let alike : lined history ≡ lined history' = alike-but-lines setup history history' legal legal' same in
    record {
      replies = sym (replies-lined setup history) ∙ ap (map (λ entry. entry.reply)) alike ∙ replies-lined setup history';
      events = sym (posts-lined setup history) ∙ ap (posts setup) alike ∙ posts-lined setup history';
    }

pub neighbours-change-nothing : NeighboursChangeNothing
neighbours-change-nothing setup owners history history' legal legal' s same t mine =
    let law : IsFamilyLaw setup (family setup s) history = families-are-alone setup owners history legal s in
    let law' : IsFamilyLaw setup (family setup s) history' = families-are-alone setup owners history' legal' s in
    let alike : lined (only (family setup s) history) ≡ lined (only (family setup s) history') =
    alike-but-lines setup (only (family setup s) history) (only (family setup s) history') law.legal law'.legal same in
    sym (ap (map but_moment_line) (law.events t mine)) ∙ sym (moments-lined setup t (only (family setup s) history)) ∙ ap (moments setup t) alike
    ∙ moments-lined setup t (only (family setup s) history') ∙ ap (map but_moment_line) (law'.events t mine)
