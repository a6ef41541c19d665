-- The lists that are stored group by group: the data carriers segment after segment, the continual carriers role after role.
-- Assumes nothing.
use Prim.Native.Nat.{ℕ, zero, suc, ◌+◌, ◌-◌, ◌≤◌, ◌<◌}
use mathlib.Core.List.{List, [], ◌∷◌, ◌++◌, append_assoc}
use mathlib.Core.Path.{◌≡◌, sym, ap, ◌∙◌}
use native.Mathlib.Numerals.{add-one}
use native.Mathlib.Omega.{arith}
use native.Mathlib.Decide.{dec_lt}
use borrow.Author.Tests.{le-leb, lt-leb}
use lib.ListN.{length, take, drop, set, length-append, length-drop}
use lib.Seq.{sets, sets-eq, length-sets, length-take-le}
use Rattle.lists.specs.Lists.{range, joined, chosen}
use Rattle.lists.specs.Fill.{joined_range, sets_append, sets_all}
use Rattle.params.specs.declared.Mode.{Mode}
use Rattle.params.specs.Params.{carriers_per_segment}
use Rattle.params.specs.Laws.{sized}
use Rattle.ofdm.specs.Band.{place_of, first_carrier}
use Rattle.ofdm.specs.Laws.{place_below, segment_ends}
use Rattle.std.proofs.Common.{Ok, Err, count_by}
use Rattle.params.specs.declared.Refusal.TheVariants.{WrongLength}
use Rattle.frame.specs.Roles.{is_data, is_tmcc, is_ac, is_cp_byte}
use Rattle.carrier_lists.specs.CarrierLists.{continual_in, stored_first}
use Rattle.carrier_lists.specs.ContinualCount.{is_continual, continual_count}
use Rattle.carrier_lists.proofs.Collecting.{chosen_counted}
use Rattle.carrier_lists.specs.Inner.{Room, Collected, DataRoom, data_in, ContinualRoom, Continual}

-- data carriers: one segment more
joined_longer : (f : ℕ → List ℕ) (m n : ℕ) → m ≤ n → length (joined f (range m)) ≤ length (joined f (range n))
joined_longer f m zero h = let e : m ≡ 0 = omega arith in rw e (omega arith)
joined_longer f m (suc n) h = last (dec_lt m (suc n)) (λ l. joined_longer f m n l)
  where
    last : Dec (m < suc n) → (m ≤ n → length (joined f (range m)) ≤ length (joined f (range n)))
        → length (joined f (range m)) ≤ length (joined f (range (suc n)))
    last (yes l) r = rw (joined_range f n, length-append (joined f (range n)) (f n)) (omega (arith, r (omega arith)))
    last (no l) r = let e : m ≡ suc n = omega arith in rw e (omega arith)

module _ (mode : Mode) (roles old : List ℕ) where
  -- the data carriers of the segments below seg are stored; c is the code's count of a segment's carriers
  pub record DataTo (c seg at : ℕ) (out : List ℕ) : Type 0 where
    pub carriers : c ≡ carriers_per_segment mode
    pub room : DataRoom mode roles old
    pub passed : seg ≤ 13
    pub stored : out ≡ sets old 0 (joined (data_in mode roles) (range seg))
    pub next : at ≡ length (joined (data_in mode roles) (range seg))

  module _ (c seg at : ℕ) (out : List ℕ) (w : DataTo c seg at out) where
    abbrev before : List ℕ
    before = joined (data_in mode roles) (range seg)

    pub data_size : length out ≡ length old
    data_size = ap length w.stored ∙ length-sets old 0 before

    pub data_few : length roles ≤ 5617
    data_few = rw w.room.band (sized mode).band_high

    -- the segment's first carrier is `from`
    module _ (place from : ℕ) (e : place ≡ place_of seg) (first : from ≡ first_carrier mode place) (h : seg < 13) where
      starts : from ≡ first_carrier mode (place_of seg)
      starts = first ∙ ap (first_carrier mode) e

      abbrev part : List ℕ
      part = take (from + c - from) (drop from roles)

      pub data_ends : from + c < length roles
      data_ends = rw (starts, w.carriers, w.room.band) (segment_ends mode (place_of seg) (place_below seg h))

      part_data : chosen is_data from part ≡ data_in mode roles seg
      part_data = let s : from + c - from ≡ c = omega arith in rw (s, starts, w.carriers)

      pub data_room : Room part 0 0 from out at
      data_room =
          record {
            fits = rw part_data (omega (arith, w.next, data_size, w.room.fits, more, joined_longer (data_in mode roles) (suc seg) 13 h));
            small = omega (arith, data_ends, data_few, size);
          }
        where
          more : length (joined (data_in mode roles) (range (suc seg))) ≡ length before + length (data_in mode roles seg)
          more = ap length (joined_range (data_in mode roles) seg) ∙ length-append before (data_in mode roles seg)

          size : length part ≡ from + c - from
          size = length-take-le (from + c - from) (drop from roles) (rw (length-drop from roles) (omega (arith, data_ends)))

      pub data_again : (at' : ℕ) (out' : List ℕ) → Collected part 0 0 from out at at' out' → DataTo c (seg + 1) at' out'
      data_again at' out' k =
          record {
            carriers = w.carriers;
            room = w.room;
            passed = omega arith;
            stored =
                k.stored
                ∙ (rw (part_data, w.stored, w.next, add-one seg, joined_range (data_in mode roles) seg)
                (ap (λ (n : ℕ). sets (sets old 0 before) n (data_in mode roles seg)) (sym zero_plus)
                ∙ sets_append before (data_in mode roles seg) old 0));
            next =
                k.next
                ∙ rw (part_data, w.next, add-one seg, joined_range (data_in mode roles) seg, length-append before (data_in mode roles seg));
          }
        where
          zero_plus : 0 + length before ≡ length before
          zero_plus = omega arith

    pub data_done : 13 ≤ seg → out ≡ joined (data_in mode roles) (range 13)
    data_done h =
        let e : seg ≡ 13 = omega (arith, w.passed) in
        w.stored ∙ (rw e (sets_all (joined (data_in mode roles) (range 13)) old w.room.fits))

-- continual carriers: three groups and the edge
module _ (roles : List ℕ) where
  abbrev tmcc : List ℕ
  tmcc = chosen is_tmcc 0 roles

  abbrev ac : List ℕ
  ac = chosen is_ac 0 roles

  abbrev cp : List ℕ
  cp = chosen is_cp_byte 0 roles

  -- n is what the code counts, without the edge
  module _ (old : List ℕ) (n : ℕ) (e : n ≡ count_by is_continual roles) where
    with_edge : n + 1 ≡ length (continual_in roles)
    with_edge = omega (arith, continual_count roles, chosen_counted is_continual 0 roles)

    pub refused_short : length old < n + 1 → Continual roles old (Err WrongLength) old
    refused_short h =
        let t = lt-leb (length (continual_in roles)) (length old) (rw with_edge at h) in
        record { answer = rw t; leaves = rw t }

    module _ (h : n + 1 ≤ length old) where
      pub has_all_room : length (continual_in roles) ≤ length old
      has_all_room = rw with_edge at h

      pub stored_whole : (out' : List ℕ) → out' ≡ stored_first (continual_in roles) old → Continual roles old (Ok (n + 1)) out'
      stored_whole out' w =
          let t = le-leb (length (continual_in roles)) (length old) has_all_room in
          record { answer = rw (with_edge, t); leaves = rw t w }

  -- what the code stores, group after group
  module _ (old : List ℕ) (r : ContinualRoom roles old) where
    module _ (n1 : ℕ) (out1 : List ℕ) (k1 : Collected roles 3 3 0 old 0 n1 out1) where
      module _ (n2 : ℕ) (out2 : List ℕ) (k2 : Collected roles 4 5 0 out1 n1 n2 out2) where
        two : out2 ≡ sets old 0 (tmcc ++ ac)
        two = k2.stored ∙ (rw (k1.stored, k1.next) (sets_append tmcc ac old 0))

        at_two : n2 ≡ 0 + length (tmcc ++ ac)
        at_two = k2.next ∙ (rw (k1.next, length-append tmcc ac) (omega arith))

        module _ (n3 : ℕ) (out3 : List ℕ) (k3 : Collected roles 2 2 0 out2 n2 n3 out3) where
          three : out3 ≡ sets old 0 ((tmcc ++ ac) ++ cp)
          three = k3.stored ∙ (rw (two, at_two) (sets_append (tmcc ++ ac) cp old 0))

          at_three : n3 ≡ 0 + length ((tmcc ++ ac) ++ cp)
          at_three = k3.next ∙ (rw (at_two, length-append (tmcc ++ ac) cp) (omega arith))

          pub continual_stored : (edge : ℕ) → edge ≡ length roles - 1 → set out3 n3 edge ≡ stored_first (continual_in roles) old
          continual_stored edge e =
              let fits : 0 + length (continual_in roles) ≤ length old = omega (arith, r.fits) in
              let plain : 0 + length (continual_in roles) ≡ length (continual_in roles) = omega arith in
              all_four ∙ (sets-eq (continual_in roles) old 0 fits ∙ ap (λ (k : ℕ). continual_in roles ++ drop k old) plain)
            where
              all_four : set out3 n3 edge ≡ sets old 0 (continual_in roles)
              all_four =
                  let last = (length roles - 1) ∷ [] in
                  rw (three, at_three, e)
                  (sets_append ((tmcc ++ ac) ++ cp) last old 0 ∙ ap (sets old 0) (append_assoc (tmcc ++ ac) cp last ∙ append_assoc tmcc ac (cp ++ last)))
