use Rattle.std.proofs.Common.{◌≡◌, ◌∙◌, ◌<◌, ℕ, List, ◌++◌, sym, ap, subst, map}
use Rattle.std.specs.Arc.{arc_value}
use Rattle.flat_scene.specs.declared.frames.DrawItem.{DrawItem}
use Rattle.flat_scene.specs.declared.setup.Setup.{Setup}
use Rattle.flat_page.proofs.lemmas.LastItems.{last-more}
use Rattle.flat_render.specs.declared.picture.Picture.{Picture}
use Rattle.flat_render.specs.Pictures.{Shows}
use Rattle.flat_ink.specs.Pixels.{pixel}
use Rattle.flat_render.specs.Ppm.{ppm_bytes}
use Rattle.flat_texts.specs.Pictures.{list_of}
use Rattle.flat_texts.proofs.Filming.{any-more, pictures-more}
use Rattle.flat_texts.proofs.StripLemmas.{strips-kept, strips-shown, text-shown}
use Rattle.flat_texts.proofs.film.Film.push.Goals as goal

pub returns : goal.returns
returns c = λ setup frames film.
    let frame = c.args.frame.now in
    let items : List DrawItem = c.in_ok-next.next in
    let same : items ≡ frame.items = c.in_ok-next.ensures in
    let drawn = c.in_ok-rects.ensures.ok in
    let picture : Picture = c.redraw.new.picture in
    let shows : Shows picture setup.width setup.height (pixel items) = record {
      width = drawn.width ∙ film.shows.width;
      height = drawn.height ∙ film.shows.height;
      pixels = λ x y low high. drawn.pixels x y (subst (λ w. x < w) (sym film.shows.width) low) (subst (λ h. y < h) (sym film.shows.height) high);
    } in
    let bytes = text-shown picture setup.width setup.height (pixel items) _ _ _ shows c.in_ok-push_head.ensures c.in_ok-strips.ensures.text in
    record {
      any = sym (any-more frames frame);
      pictures =
          bytes ∙ ap (λ (is : List DrawItem). c.args.self.now.pictures ++ ppm_bytes setup.width setup.height (pixel is)) same
          ∙ ap (λ (t : List ℕ). t ++ ppm_bytes setup.width setup.height (pixel frame.items)) film.pictures ∙ sym (pictures-more setup frames frame);
      shown = same ∙ sym (ap list_of (last-more frames frame));
      shows = shows;
      wide = film.wide;
      high = film.high;
      strips = strips-shown picture setup.width setup.height (pixel items) _ shows c.in_ok-strips.ensures.strips;
    }

pub push_strips-requires-clause-old : goal.push_strips-requires-clause-old
push_strips-requires-clause-old c =
    let setup : Setup = c.requires.film.0 in
    let film = c.requires.film.2 in
    let drawn = c.in_ok-rects.ensures.ok in
    let picture : Picture = c.redraw.new.picture in
    let shows : Shows picture setup.width setup.height (pixel c.in_ok-next.next) = record {
      width = drawn.width ∙ film.shows.width;
      height = drawn.height ∙ film.shows.height;
      pixels = λ x y low high. drawn.pixels x y (subst (λ w. x < w) (sym film.shows.width) low) (subst (λ h. y < h) (sym film.shows.height) high);
    } in
    strips-kept picture setup.width setup.height c.args.self.now.shown c.in_ok-next.next c.in_ok-rects.rects _ (map arc_value c.args.self.now.strips.items) _
    c.as_slice-rects.ensures (ap (λ runs. map arc_value runs) c.as_slice-old.ensures.value) c.damage_laws.ensures.covers c.in_ok-rects.ensures.damage shows
    film.strips
