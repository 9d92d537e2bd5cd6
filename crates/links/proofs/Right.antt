-- A right segment at its link, in a station whose other links are in any state that isn't bad; and what leaves a link alone.
use Prim.Native.Nat.{ℕ, ◌<◌}
use Rattle.links.specs.declared.Answer.{Answer}
use Rattle.links.specs.declared.Refusal.{Refusal}
use Rattle.std.specs.Prelude.{Some, Result}
use mathlib.Core.Bool.{true}
use mathlib.Core.List.{List}
use mathlib.Core.Logic.{◌≢◌}
use mathlib.Core.Path.{◌≡◌, refl, sym, ap, ◌∙◌}
use lib.ListN.{length}
use borrow.Author.Tests.{eq-eqb}
use Rattle.transactions.specs.Segments.{segment}
use Rattle.transactions.specs.declared.TransactionNumber.{TransactionNumber}
use Rattle.pb_adv_writing.specs.Writing.{header_of, segment_frame, SegmentAsked}
use Rattle.pb_adv_writing.proofs.Promises.{parsed-frame, carried-frame, segment-fits}
use Rattle.links.specs.Links.{peer, End, side_of, sends, in_use, find}
use Rattle.links.specs.Good.{good_last, good_half, good}
use Rattle.links.specs.Segments.{OneLink, segment_step}
use Rattle.links.specs.Station.{Station, get_link, put_link, frame_step, is_right, received}
use Rattle.links.specs.declared.LinkState.TheVariants as S
use Rattle.links.proofs.Lens.{Sized, right-sized, right-as, part-size, put_count, put-room, get-put, get-put-other, find_at, good-out, good-get, good-put, same_use}
use Rattle.links.proofs.Keep.{Keeps, step_keeps, open-out, open_in}

-- a link open under a Link ID, with right arguments and in a state that isn't bad
pub record OpenAt (end : End) (τ : Station) (s id : ℕ) : Type 0 where
  pub right : is_right end τ ≡ true
  pub not_bad : good (side_of end) τ.links ≡ true
  pub below : s < length τ.links
  pub is_open : (get_link s τ).link.state ≡ S.Open
  pub has_id : (get_link s τ).link.id ≡ id

module _ (end : End) (τ : Station) (s id : ℕ) (a : OpenAt end τ s id) where
  pub found : find τ.links id ≡ Some s
  unfolding get_link
  found = find_at τ.links id s (good-out (side_of end) τ.links a.not_bad).1 a.below (rw (a.is_open, a.has_id) (eq-eqb id id refl))

  pub sized : Sized τ
  sized = right-sized end τ a.right

  -- ---- one right segment
  module _ (t : TransactionNumber) (m : List ℕ) (k : ℕ) (asked : SegmentAsked m k) (number : sends (peer (side_of end)) t ≡ true) (f : List ℕ) (is : f ≡ segment_frame id t m k) where
    abbrev pub taken : Result Answer Refusal × OneLink
    taken = segment_step (get_link s τ) t (header_of m k) (segment m k)

    pub goes : received end τ f ≡ (taken.0, put_link s taken.1 τ)
    unfolding received frame_step
    goes = rw (
      is,
      a.right,
      a.not_bad,
      parsed-frame id t m k asked,
      found,
      a.is_open,
      number,
      carried-frame id t m k,
    )

    size : length (get_link s τ).part ≡ 1469
    size = part-size (length τ.links) τ refl sized s a.below

    open_parts : (sends (side_of end) (get_link s τ).link.next ≡ true) × (good_last (side_of end) (get_link s τ).link.last ≡ true) × (good_half (side_of end) (get_link s τ).link.last (get_link s τ).link.half ≡ true)
    open_parts = open-out (side_of end) (get_link s τ).link (rw a.is_open at (good-get (side_of end) τ s a.not_bad a.below))

    -- what its link keeps
    keeps : Keeps (side_of end) (get_link s τ) taken.1
    keeps = step_keeps (side_of end) (get_link s τ) size open_parts.1 open_parts.2 t number _ _ (segment-fits m k asked)

    pub same : get_link s (received end τ f).1 ≡ taken.1
    same = rw goes (get-put (length τ.links) τ refl sized s a.below taken.1 (keeps.part ∙ size))

    pub other : (j : ℕ) → s ≢ j → get_link j (received end τ f).1 ≡ get_link j τ
    other j h = rw goes (get-put-other (length τ.links) τ refl sized s a.below taken.1 (keeps.part ∙ size) j h)

    pub count : length (received end τ f).1.links ≡ length τ.links
    count = rw goes (put_count (length τ.links) τ refl sized s a.below taken.1 (keeps.part ∙ size))

    pub stays : OpenAt end (received end τ f).1 s id
    stays = record {
      right = right-as end τ _ count (rw goes (put-room (length τ.links) τ refl sized s a.below taken.1 (keeps.part ∙ size)) ∙ sym sized) a.right;
      not_bad = rw goes (good-put (side_of end) τ s taken.1 a.not_bad
          (open_in (side_of end) taken.1.link (keeps.state ∙ a.is_open) (rw keeps.next open_parts.0) keeps.last keeps.half)
          (same_use (ap in_use keeps.state) keeps.id));
      below = rw count a.below;
      is_open = rw (same, keeps.state) a.is_open;
      has_id = rw (same, keeps.id) a.has_id;
    }
