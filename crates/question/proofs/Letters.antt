-- Letters that are read while they are tested: the kinds read are the front's, and the front's letters are good.
-- Assumes nothing.
use Rattle.std.specs.Prelude.{ℕ, ◌+◌, ◌-◌, ◌<◌, true, List, ◌≡◌, map, length, get_or, take, set}
use Rattle.std.proofs.Common.{arith, sym, ap, ◌∙◌, length-set, take_all}
use Rattle.std.proofs.lemmas.List.{length-map, map-set, map_more, take_more_set}
use Rattle.std.proofs.lemmas.List.Folds.{list_all_more}
use Rattle.std.specs.List.{list_all}
use Rattle.params.specs.declared.SegmentKind.{SegmentKind}
use Rattle.params.specs.declared.SegmentKind.TheVariants.{Coherent, Differential}
use Rattle.params.specs.Params.{kind_code, kind_codes}
use Rattle.question.specs.Question.{is_kind_letter}

-- the letter of a kind
letter_good : (kind : SegmentKind) (b : ℕ) → b ≡ 67 + kind_code kind → is_kind_letter b ≡ true
letter_good Coherent b e = rw e
letter_good Differential b e = rw e

pub record Read (letters : List ℕ) (i : ℕ) (kinds : List SegmentKind) : Type 0 where
  pub size : length kinds ≡ 13
  pub front : take i (kind_codes kinds) ≡ map (λ b. b - 67) (take i letters)
  pub good : list_all is_kind_letter (take i letters) ≡ true

module _ (letters : List ℕ) (all : length letters ≡ 13) where
  pub one_more : (i : ℕ) (kinds : List SegmentKind) (kind : SegmentKind) → Read letters i kinds → i < 13 → get_or letters i 0 ≡ 67 + kind_code kind
      → Read letters (i + 1) (set kinds i kind)
  unfolding kind_codes
  one_more i kinds kind r h e =
      let here : i < length letters = omega arith in
      let inside : i < length (map kind_code kinds) = omega (arith, r.size, length-map kinds kind_code) in
      let code : kind_code kind ≡ get_or letters i 0 - 67 = omega arith in
      record {
        size = length-set kinds i kind ∙ r.size;
        front =
            rw (map-set kind_code kinds i kind, take_more_set _ i (kind_code kind) inside, map_more (λ b. b - 67) letters i 0 here, r.front, code);
        good = rw (list_all_more is_kind_letter letters i 0 here, r.good) (letter_good kind _ e);
      }

  pub all_read : (kinds : List SegmentKind) → Read letters 13 kinds → (list_all is_kind_letter letters ≡ true) × (kind_codes kinds ≡ map (λ b. b - 67) letters)
  unfolding kind_codes
  all_read kinds r =
      let whole : take 13 letters ≡ letters = take_all 13 letters (omega arith) in
      let codes : take 13 (map kind_code kinds) ≡ map kind_code kinds = take_all 13 (map kind_code kinds) (omega (arith, r.size, length-map kinds kind_code)) in
      (rw whole at r.good, sym codes ∙ r.front ∙ ap (map (λ b. b - 67)) whole)
