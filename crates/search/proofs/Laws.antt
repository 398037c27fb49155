-- One search, over plain variables and tables of any size: the parts of the code are the parts of the definition. Assumes nothing.
use Prim.Native.Nat.{ℕ}
use mathlib.Core.Path.{◌≡◌, refl, ap, ◌∙◌}
use mathlib.Core.Bool.{true, false}
use mathlib.Core.List.{List, map}
use lib.ListN.{take, replicate}
use Rattle.limits.specs.Limits.{none}
use Rattle.graphs.specs.Graph.{Graph}
use Rattle.theory.specs.Search.Tables.{groups, unreached, Line, Tables}
use Rattle.theory.specs.Search.Start.{seed, fill, start}
use Rattle.theory.specs.Search.Look.{run}
use Rattle.theory.specs.Search.Expose.{augmented}
use Rattle.theory.specs.Search.Searched.{inward, outward, mark, after, begun, ended, Outcome, found, stuck, searched_in}
use Rattle.search.specs.Answer.{Answers}
use Rattle.graphs.proofs.Count.{clash}

-- ---- either way out

found-answers : (room : ℕ) (g : Graph) (p p' l : List ℕ) → found p' ≡ searched_in room g p → Answers room g p p' l l true
found-answers room g p p' l e = record { is = e; partners = ap (λ (o : Outcome). after o p) e; labels = λ t. clash true refl t; kept = λ t. refl }

stuck-answers : (room : ℕ) (g : Graph) (p l l' : List ℕ) → stuck (map mark (take g.order l')) ≡ searched_in room g p → l' ≡ (ended room g p).line.label → Answers room g p p l l' false
stuck-answers room g p l l' e k = record { is = e; partners = ap (λ (o : Outcome). after o p) e; labels = λ t. k; kept = λ t. clash false t refl }

-- ---- the tables

-- the tables as the code has filled them
abbrev pub filled : ℕ → ℕ → List ℕ → List ℕ → List ℕ → List ℕ → Line → Tables
filled room n mate top root base l = record {
  order = n;
  mate = mate;
  parent = replicate room none;
  top = top;
  root = root;
  base = base;
  rank = replicate (groups room) 0;
  half = replicate (groups room) 0;
  line = l;
  rings = record {
    up = replicate (groups room) none;
    next = replicate (groups room) none;
    out = replicate (groups room) none;
    into = replicate (groups room) none;
  };
  ids = n;
  hit = false;
  one = none;
  two = none;
}

pub starts : (room n : ℕ) (mate mate' top root base : List ℕ) (l : Line) → mate ≡ mate' → top ≡ fill room n (replicate room none)
    → root ≡ fill (groups room) n (replicate (groups room) none) → base ≡ fill (groups room) n (replicate (groups room) none)
    → l ≡ seed room mate n (record { label = replicate room unreached; queue = replicate room none; tail = 0 })
    → filled room n mate top root base l ≡ start room n mate'
unfolding start
starts room n mate mate' top root base l em et er eb el = rw (el, et, er, eb, em) refl

module _ (room : ℕ) (g : Graph) (p : List ℕ) (n : ℕ) (s₀ s : Tables) (en : n ≡ g.order) (es : s₀ ≡ start room n (inward room n p room (replicate room none))) (er : s ≡ run room g s₀.order s₀) where
  begins : s₀ ≡ begun room g p
  unfolding begun
  begins = es ∙ ap (λ (k : ℕ). start room k (inward room k p room (replicate room none))) en

  ends : s ≡ ended room g p
  unfolding ended start
  ends = er ∙ ap (λ (k : ℕ). run room g k s₀) (ap (λ (x : Tables). x.order) es ∙ en) ∙ ap (run room g g.order) begins

  pub one_found : true ≡ s.hit → (m p' : List ℕ) → m ≡ augmented room s → p' ≡ outward room m n p → (l : List ℕ) → Answers room g p p' l l true
  unfolding searched_in
  one_found h m p' a o l = found-answers room g p p' l
      (ap found (o ∙ ap (λ (x : List ℕ). outward room x n p) a ∙ ap (λ (k : ℕ). outward room (augmented room s) k p) en) ∙ rw (← ends, ← h) refl)

  pub none_found : false ≡ s.hit → (l : List ℕ) → Answers room g p p l s.line.label false
  unfolding searched_in
  none_found h l = stuck-answers room g p l s.line.label (rw (← ends, ← h) refl) (ap (λ (x : Tables). x.line.label) ends)
