-- Pieces of text that are stored one behind another, and text that is cut off.
-- Assumes nothing.
use Rattle.std.specs.Prelude.{ℕ, ◌+◌, ◌-◌, ◌≤◌, ◌<◌, Bool, true, false, cond, List, [], ◌++◌, ◌≡◌, refl, Result, Ok, Err, leb, length, take}
use Rattle.std.proofs.Common.{sym, ap, subst, ◌∙◌, arith, leb-true, leb-false, le-leb, length-append, length-take, take_all, take_at, take-take}
use Rattle.std.proofs.lemmas.Bool.{lt-leb}
use Rattle.std.proofs.lemmas.List.Edits.{sets, sets-eq}
use Rattle.std.proofs.Math.Seq.{length-sets, take-append-add}
use Rattle.std.proofs.lemmas.List.{take-append-le}
use Rattle.lists.specs.Fill.{sets_append}
use Rattle.text.specs.declared.Cut.{Cut}
use Rattle.text.specs.Put.{Put, PutCut, cut, fit_of}

pub then : {out mid end : List ℕ} {at a b : ℕ} {s t : List ℕ} → Put out at s a mid → Put mid a t b end → Put out at (s ++ t) b end
then {out} {mid} {end} {at} {a} {b} {s} {t} p q = record {
  stored = q.stored ∙ (ap (λ (l : List ℕ). sets l a t) p.stored ∙ (ap (λ (k : ℕ). sets (sets out at s) k t) p.next ∙ sets_append s t out at));
  next = rw length-append (omega arith);
}

pub put_none : (out : List ℕ) (at : ℕ) → Put out at [] at out
put_none out at = record { stored = refl; next = omega arith }

pub put_as : {out end s t : List ℕ} {at r : ℕ} → t ≡ s → Put out at s r end → Put out at t r end
put_as {out} {end} {s} {t} {at} {r} e p = subst (λ (l : List ℕ). Put out at l r end) (sym e) p

-- what is stored from the buffer's start on is read back
pub put_read : {out out' text : List ℕ} {r : ℕ} → Put out 0 text r out' → r ≤ length out → take r out' ≡ text
put_read {out} {out'} {text} {r} p h =
    rw (p.stored, sets-eq text out 0 (omega (arith, p.next))) (take_at text _ r (omega (arith, p.next)))

put_length : {out out' text : List ℕ} {at r : ℕ} → Put out at text r out' → length out' ≡ length out
put_length {out} {out'} {text} {at} p = ap length p.stored ∙ length-sets out at text

cut_fit : (end room : ℕ) → Err cut ≡ fit_of end room → room < end
unfolding fit_of
cut_fit end room e = by (leb end room) refl e
  where
    by : (b : Bool) → leb end room ≡ b → Err cut ≡ cond b (Ok end) (Err cut) → room < end
    by true l e = absurd (let z : ◌≡◌ {A = ℕ} 0 1 = cc in omega arith)
    by false l e = leb-false end room l

fit_cut : (end room : ℕ) → room < end → Err cut ≡ fit_of end room
unfolding fit_of
fit_cut end room h = rw (lt-leb end room h)

fit_whole : (r end room : ℕ) → r ≡ end → end ≤ room → Ok r ≡ fit_of end room
unfolding fit_of
fit_whole r end room e h = rw (le-leb end room h, e)

whole_fit : (r end room : ℕ) → Ok r ≡ fit_of end room → (r ≡ end) × (end ≤ room)
unfolding fit_of
whole_fit r end room e = by (leb end room) refl e
  where
    by : (b : Bool) → leb end room ≡ b → Ok r ≡ cond b (Ok end) (Err cut) → (r ≡ end) × (end ≤ room)
    by true l e = (cc, leb-true end room l)
    by false l e = absurd (let z : ◌≡◌ {A = ℕ} 0 1 = cc in omega arith)

pub cut_as : {out end s t : List ℕ} {at : ℕ} {r : Result ℕ Cut} → t ≡ s → PutCut out at s r end → PutCut out at t r end
cut_as {out} {end} {s} {t} {at} {r} e p = subst (λ (l : List ℕ). PutCut out at l r end) (sym e) p

-- the front of a text that is too long
pub front_cut : {out out' : List ℕ} {at r : ℕ} (text : List ℕ) (n : ℕ) → Put out at (take (length out - at) text) r out' → at ≤ length out → length out - at < n
    → n ≤ length text → PutCut out at (take n text) (Err cut) out'
front_cut {out} {out'} {at} text n p l h m = record {
  fit = fit_cut _ _ (simp length-take (omega arith));
  stored = p.stored ∙ ap (sets out at) (sym (take-take (length out - at) n text (omega arith)));
}

-- text with room for all of it
pub whole_cut : {out out' text : List ℕ} {at r : ℕ} → Put out at text r out' → r ≤ length out → PutCut out at text (Ok r) out'
whole_cut {out} {out'} {text} {at} {r} p h = record {
  fit = fit_whole r (at + length text) (length out) p.next (omega (arith, p.next));
  stored = p.stored ∙ ap (sets out at) (sym (take_all (length out - at) text (omega (arith, p.next))));
}

pub cut_whole : {out out' text : List ℕ} {at r : ℕ} → PutCut out at text (Ok r) out' → Put out at text r out' × (r ≤ length out)
cut_whole {out} {out'} {text} {at} {r} p =
    let w = whole_fit r (at + length text) (length out) p.fit in
    (record { stored = p.stored ∙ ap (sets out at) (take_all (length out - at) text (omega arith)); next = w.0 }, omega arith)

-- text behind a piece that has room
pub cut_then : {out mid end s t : List ℕ} {at a : ℕ} {r : Result ℕ Cut} → Put out at s a mid → a ≤ length out → PutCut mid a t r end
    → PutCut out at (s ++ t) r end
cut_then {out} {mid} {end} {s} {t} {at} {a} {r} p h q =
    let same : length mid ≡ length out = put_length p in
    let ends : a + length t ≡ at + length (s ++ t) = rw length-append (omega (arith, p.next)) in
    let left = length out - (at + length s) in
    let room : length out - at ≡ length s + left = omega (arith, p.next) in
    let both : sets mid a (take (length mid - a) t) ≡ sets out at (s ++ take left t) = rw (same, p.stored, p.next) (sets_append s (take left t) out at) in
    let cut : s ++ take left t ≡ take (length out - at) (s ++ t) = rw room (sym (take-append-add s t left)) in
    record { fit = q.fit ∙ rw (same, ends); stored = q.stored ∙ (both ∙ ap (sets out at) cut) }

-- a piece that is cut off already
pub cut_before : {out out' s : List ℕ} {at : ℕ} (t : List ℕ) → PutCut out at s (Err cut) out' → PutCut out at (s ++ t) (Err cut) out'
cut_before {out} {out'} {s} {at} t p =
    let short : length out < at + length s = cut_fit _ _ p.fit in
    record {
      fit = fit_cut _ _ (rw length-append (omega arith));
      stored = p.stored ∙ ap (sets out at) (sym (take-append-le (length out - at) s t (omega arith)));
    }
