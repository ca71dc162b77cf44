-- The proof of the cycle of calls that reads an expression. The measure is what is left of the text, and any fuel above that of its words gives the answer.
-- Assumes nothing.
use borrow.Author.Rules.{rules}
use mathlib.Core.Path.{refl}
use Prim.Native.Nat.{◌<◌, ◌≤◌, ◌+◌, ◌*◌}
use native.Mathlib.Omega.{arith}
use Rattle.std.specs.Prelude.{None, Some}
use Rattle.std.proofs.lemmas.Result.{err_from_is_err_and}
use lib.ListN.{length}
use mathlib.Core.Bool.{true, false}
use Rattle.paper.specs.Words as W
use Rattle.paper.specs.Source as S
use Rattle.paper.specs.Reading as R
use Rattle.tree.specs.Trees.{expr_at, name_at}
use Rattle.expressions.specs.Reads.{unary, wrapped}
use Rattle.expressions.proofs.Tokens.{key_round_end, key_square_end}
use Rattle.expressions.proofs.Moves.{class_moves, conversion_class, operator_number}
use Rattle.expressions.proofs.Inside.{inside_bad, inside_open, inside_good}
use Rattle.expressions.proofs.Written.{leaf_did, over_good}
use Rattle.expressions.proofs.Reached.{further, later}
use Rattle.expressions.proofs.Nodes.{both_same, put_same, put_plain, put_below, put_flag, put_name, put_indexed, put_unary, put_wrapped}
use Rattle.expressions.proofs.Steps.{bracketed_other, bracketed_deep, bracketed_on, named_plain, named_deep, named_on, operand_negative, operand_minus, operand_not, operand_plain}
use Rattle.expressions.proofs.Primaries.{primary_name, primary_number, primary_truth, primary_conversion, primary_brackets}
use Rattle.expressions.proofs.Joins.{expression_bad, expression_good}
use Rattle.expressions.proofs.Turns.{turn_stop, turn_moves, turn_bad, turn_good}
use Rattle.expressions.proofs.+reading.Goals as goal

pub bracketed-returns-then-w-ne-ROUND : goal.bracketed-returns-then-w-ne-ROUND
bracketed-returns-then-w-ne-ROUND t c =
    let A = c.args in
    rw c.broken.ensures (
      tt,
      record {
        within = search rules;
        same = λ j h. refl;
        runs = bracketed_other A.text.now A.at A.nest _ c.requires.1 _ c.if-w-ne-ROUND.true;
      },
    )

pub bracketed-returns-then-nest-ge64 : goal.bracketed-returns-then-nest-ge64
bracketed-returns-then-nest-ge64 t c =
    let A = c.args in
    rw c.too_deep.ensures (
      tt,
      record {
        within = search rules;
        same = λ j h. refl;
        runs = bracketed_deep A.text.now A.at A.nest _ c.requires.1 _ c.if-w-ne-ROUND.false c.if-nest-ge64.true;
      },
    )

pub bracketed-returns-in_err-r : goal.bracketed-returns-in_err-r
bracketed-returns-in_err-r t c =
    let A = c.args in
    let m = class_moves _ _ _ c.requires.1 62 c.if-w-ne-ROUND.false refl refl in
    let p = err_from_is_err_and c.from_residual.result c.from_residual.ensures.1 in
    rw (p.1, p.2) (
      tt,
      inside_bad A.text.now A.pool.now A.at A.at A.nest A.count 1 _ c.requires.1 m (omega arith) ")" (λ x. x) _
          (λ D r. bracketed_on A.text.now A.at A.nest _ c.requires.1 D c.if-w-ne-ROUND.false r c.if-nest-ge64.false) _ _ c.in_err-r.ensures,
    )

pub bracketed-returns-in_err-end : goal.bracketed-returns-in_err-end
bracketed-returns-in_err-end t c =
    let A = c.args in
    let m = class_moves _ _ _ c.requires.1 62 c.if-w-ne-ROUND.false refl refl in
    let p = err_from_is_err_and c.from_residual-in_err-end.result c.from_residual-in_err-end.ensures.1 in
    rw (p.1, p.2) (
      tt,
      inside_open A.text.now A.pool.now A.at A.at A.nest A.count 1 _ c.requires.1 m (omega arith) ")" (λ x. x) _
          (λ D r. bracketed_on A.text.now A.at A.nest _ c.requires.1 D c.if-w-ne-ROUND.false r c.if-nest-ge64.false) _ _ c.in_ok-r.ensures 63 key_round_end _ c.in_err-end.ensures,
    )

pub bracketed-returns : goal.bracketed-returns
bracketed-returns t c =
    let A = c.args in
    let m = class_moves _ _ _ c.requires.1 62 c.if-w-ne-ROUND.false refl refl in
    let x = c.in_ok-r.ensures in (
      omega (arith, c.in_ok-end.ensures.within, x.within, c.requires.1, c.requires),
      inside_good A.text.now A.pool.now A.at A.at A.nest A.count 1 _ c.requires.1 m (omega arith) ")" (λ x. x) _
          (λ D r. bracketed_on A.text.now A.at A.nest _ c.requires.1 D c.if-w-ne-ROUND.false r c.if-nest-ge64.false) _ _ x 63 key_round_end _ c.in_ok-end.ensures
          _ _ _ x.same (omega arith) (omega arith) (omega (arith, x.within)) refl,
    )

pub expression-returns-in_err-r : goal.expression-returns-in_err-r
expression-returns-in_err-r t c =
    let A = c.args in
    let D = expr_at A.text.now c.operand.new.pool in
    let p = err_from_is_err_and c.from_residual.result c.from_residual.ensures.1 in
    rw (p.1, p.2) (record {
      within = c.in_err-r.ensures.within;
      same = c.in_err-r.ensures.same;
      runs = expression_bad A.text.now A.at A.least A.nest D D _ c.in_err-r.ensures.runs;
    })

pub expression-returns : goal.expression-returns
expression-returns t c =
    let A = c.args in
    let mid = c.operand.new.pool in
    let new = c.joined.new.pool in
    record {
      within = further _ _ _ _ c.in_ok-r.ensures.within _ c.joined.ensures.within;
      same = both_same A.count _ A.pool.now mid new c.in_ok-r.ensures.same (omega (arith, c.in_ok-r.ensures.within)) c.joined.ensures.same;
      runs = expression_good A.text.now A.at A.least A.nest (expr_at A.text.now mid) (expr_at A.text.now new) _ c.in_ok-r.ensures.runs _ c.joined.ensures.runs;
    }

pub joined-expression-requires : goal.joined-expression-requires
joined-expression-requires t c =
    omega (arith, turn_moves c.args.text.now c.loop-o.pool c.loop-o.left.at c.args.least c.args.nest c.loop-o.left.count c.loop-o.left.root _ c.next_word-w.ensures _ c.in-Some.ensures _ c.level-l.ensures, c.next_word-w.ensures.from, c.next_word-w.ensures.to, c.loop-o.invariant, c.requires)

pub joined-returns-in_err-r : goal.joined-returns-in_err-r
joined-returns-in_err-r t c =
    let A = c.args in
    let L = c.loop-o in
    let p = err_from_is_err_and c.from_residual.result c.from_residual.ensures.1 in
    rw (p.1, p.2)
    (L.invariant.6 _ _
    (turn_bad A.text.now L.pool L.left.at A.least A.nest L.left.count L.left.root _ c.next_word-w.ensures _ c.in-Some.ensures _ c.level-l.ensures c.if-l-least.false _ _ c.in_err-r.ensures))

pub joined-node-left-requires : goal.joined-node-left-requires
joined-node-left-requires t c =
    omega (arith, turn_moves c.args.text.now c.loop-o.pool c.loop-o.left.at c.args.least c.args.nest c.loop-o.left.count c.loop-o.left.root _ c.next_word-w.ensures _ c.in-Some.ensures _ c.level-l.ensures, c.next_word-w.ensures.from, c.next_word-w.ensures.to, c.in_ok-r.ensures.within, c.expression.auto, c.loop-o.invariant, c.requires)

pub joined-loop-o-smaller : goal.joined-loop-o-smaller
joined-loop-o-smaller t c =
    rw c.node-left.ensures.read (omega (arith, turn_moves c.args.text.now c.loop-o.pool c.loop-o.left.at c.args.least c.args.nest c.loop-o.left.count c.loop-o.left.root _ c.next_word-w.ensures _ c.in-Some.ensures _ c.level-l.ensures, c.next_word-w.ensures.from, c.next_word-w.ensures.to, c.in_ok-r.ensures.within, c.expression.auto, c.loop-o.invariant, c.requires))

pub joined-loop-o-preserved : goal.joined-loop-o-preserved
joined-loop-o-preserved t c =
    let A = c.args in
    let L = c.loop-o in
    let q = c.in_ok-r.r in
    let m : (L.left.at < q.at) × (q.at ≤ length A.text.now) × (L.left.count ≤ q.count) × (q.root ≤ q.count) × (q.count + 1 + A.first.at ≤ A.first.count + q.at) × (c.next_word-w.result.at < length A.text.now) × (A.first.count ≤ A.first.at) × (length A.text.now ≤ 8192) × (4 * length A.text.now + 4 ≤ length c.expression.new.pool) = omega (arith, turn_moves c.args.text.now c.loop-o.pool c.loop-o.left.at c.args.least c.args.nest c.loop-o.left.count c.loop-o.left.root _ c.next_word-w.ensures _ c.in-Some.ensures _ c.level-l.ensures, c.next_word-w.ensures.from, c.next_word-w.ensures.to, c.in_ok-r.ensures.within, c.expression.auto, c.loop-o.invariant, c.requires) in
    let o = operator_number c.in-Some.o in
    rw c.node-left.ensures.read (
      omega (arith, m, L.invariant.0),
      omega (arith, m),
      omega (arith, m, L.invariant.2),
      omega (arith, m),
      omega arith,
      omega (arith, c.node-left.auto, c.expression.auto, L.invariant.5),
      λ new r d. L.invariant.6 new r
          (turn_good A.text.now L.pool L.left.at A.least A.nest L.left.count L.left.root _ c.next_word-w.ensures _ c.in-Some.ensures _ c.level-l.ensures c.if-l-least.false _ L.invariant.4 _ c.in_ok-r.ensures _ _ o.0 o.1 (omega (arith, m)) c.node-left.ensures.written new r d),
    )

pub joined-returns-in_default : goal.joined-returns-in_default
joined-returns-in_default t c =
    let A = c.args in
    let L = c.loop-o in
    L.invariant.6 _ _
    (turn_stop A.text.now L.pool L.left.at A.least A.nest L.left.count L.left.root _ c.next_word-w.ensures None c.in_default.ensures tt L.invariant.1 L.invariant.4)

pub joined-returns-then-l-least : goal.joined-returns-then-l-least
joined-returns-then-l-least t c =
    let A = c.args in
    let L = c.loop-o in
    L.invariant.6 _ _
    (turn_stop A.text.now L.pool L.left.at A.least A.nest L.left.count L.left.root _ c.next_word-w.ensures (Some c.in-Some.o) c.in-Some.ensures (rw c.level-l.ensures at c.if-l-least.true) L.invariant.1 L.invariant.4)

pub named-returns-then-w-ne-SQUARE : goal.named-returns-then-w-ne-SQUARE
named-returns-then-w-ne-SQUARE t c =
    let A = c.args in
    let s = name_at A.text.now A.place in
    let new = c.node.new.pool in
    rw c.node.ensures.read
    (leaf_did A.text.now A.pool.now new A.place A.end A.count 0 0 _ _ _ _ _ _ (search rules) (search rules) c.node.ensures.written
    (named_plain A.text.now A.end A.nest _ c.next_word-w.ensures (record { word = W.name s; place = A.place }) s (expr_at A.text.now new) (A.count + 1) c.if-w-ne-SQUARE.true
    (put_name A.text.now A.pool.now new (A.count + 1) _ _ _ (omega arith) (omega arith) c.node.ensures.written)))

pub named-returns-then-nest-ge64 : goal.named-returns-then-nest-ge64
named-returns-then-nest-ge64 t c =
    let A = c.args in
    let s = name_at A.text.now A.place in
    rw c.too_deep.ensures
    (record {
      within = search rules;
      same = λ j h. refl;
      runs = named_deep A.text.now A.end A.nest _ c.next_word-w.ensures (record { word = W.name s; place = A.place }) s _ c.if-w-ne-SQUARE.false c.if-nest-ge64.true;
    })

pub named-returns-in_err-r : goal.named-returns-in_err-r
named-returns-in_err-r t c =
    let A = c.args in
    let s = name_at A.text.now A.place in
    let p = err_from_is_err_and c.from_residual.result c.from_residual.ensures.1 in
    rw (p.1, p.2)
    (inside_bad A.text.now A.pool.now A.place A.end A.nest A.count 0 _ c.next_word-w.ensures (class_moves _ _ _ c.next_word-w.ensures 64 c.if-w-ne-SQUARE.false refl refl) (omega (arith, c.requires)) "]" (S.element A.place s _) _
    (λ D r. named_on A.text.now A.end A.nest _ c.next_word-w.ensures (record { word = W.name s; place = A.place }) s D c.if-w-ne-SQUARE.false r c.if-nest-ge64.false) _ _ c.in_err-r.ensures)

pub named-returns-in_err-behind : goal.named-returns-in_err-behind
named-returns-in_err-behind t c =
    let A = c.args in
    let s = name_at A.text.now A.place in
    let p = err_from_is_err_and c.from_residual-in_err-behind.result c.from_residual-in_err-behind.ensures.1 in
    rw (p.1, p.2)
    (inside_open A.text.now A.pool.now A.place A.end A.nest A.count 0 _ c.next_word-w.ensures (class_moves _ _ _ c.next_word-w.ensures 64 c.if-w-ne-SQUARE.false refl refl) (omega (arith, c.requires)) "]" (S.element A.place s _) _
    (λ D r. named_on A.text.now A.end A.nest _ c.next_word-w.ensures (record { word = W.name s; place = A.place }) s D c.if-w-ne-SQUARE.false r c.if-nest-ge64.false) _ _ c.in_ok-r.ensures 65 key_square_end _ c.in_err-behind.ensures)

pub named-returns : goal.named-returns
named-returns t c =
    let A = c.args in
    let q = c.in_ok-r.r in
    let m : (q.count + 1 ≤ length A.text.now) × (q.root ≤ q.count) × (A.count ≤ q.count) × (c.next_word-w.result.at < length A.text.now) × (A.place < length A.text.now) × (length A.text.now ≤ 8192) × (4 * length A.text.now + 4 ≤ length c.expression.new.pool) = omega (arith, class_moves _ _ _ c.next_word-w.ensures 64 c.if-w-ne-SQUARE.false refl refl, c.next_word-w.ensures.from, c.next_word-w.ensures.to, c.in_ok-r.ensures.within, c.expression.auto, c.requires) in
    let x = c.in_ok-r.ensures in
    let s = name_at A.text.now A.place in
    let mid = c.expression.new.pool in
    let new = c.node-2.new.pool in
    let n = q.count + 1 in
    rw c.node-2.ensures.read
    (inside_good A.text.now A.pool.now A.place A.end A.nest A.count 0 _ c.next_word-w.ensures (class_moves _ _ _ c.next_word-w.ensures 64 c.if-w-ne-SQUARE.false refl refl) (omega (arith, c.requires)) "]" (S.element A.place s _) _
    (λ D r. named_on A.text.now A.end A.nest _ c.next_word-w.ensures (record { word = W.name s; place = A.place }) s D c.if-w-ne-SQUARE.false r c.if-nest-ge64.false) _ _ x
    65 key_square_end _ c.in_ok-behind.ensures new n n (put_same A.count n _ _ _ _ A.pool.now mid new x.same (omega (arith, m)) c.node-2.ensures.written) (omega arith) (omega arith) (omega arith)
    (put_indexed A.text.now mid new n _ _ _ (omega arith) (omega (arith, m)) (omega (arith, m)) c.node-2.ensures.written))

pub operand-returns-then-v-eq-NUMBER : goal.operand-returns-then-v-eq-NUMBER
operand-returns-then-v-eq-NUMBER t c =
    let A = c.args in
    let m = class_moves _ _ _ c.next_word-w.ensures 69 c.in-69.is refl refl in
    let w = c.next_word-w.ensures in
    let v = c.next_word-v.ensures in
    let new = c.number_node.new.pool in
    rw c.number_node.ensures.read
    (leaf_did A.text.now A.pool.now new A.at A.at A.count 1 3 _ _ _ _ _ _ (omega (arith, m, w, v)) v.to c.number_node.ensures.written
    (operand_negative A.text.now A.at A.nest _ w (expr_at A.text.now new) c.in-69.is _ v (A.count + 1) c.if-v-eq-NUMBER.true
    (put_below A.text.now A.pool.now new (A.count + 1) _ _ (omega arith) (omega (arith, m, w, v, c.requires)) c.number_node.ensures.written)))

pub operand-returns-else-v-eq-NUMBER : goal.operand-returns-else-v-eq-NUMBER
operand-returns-else-v-eq-NUMBER t c =
    let A = c.args in
    let w = c.next_word-w.ensures in
    let m = class_moves _ _ _ w 69 c.in-69.is refl refl in
    record {
      within = later _ _ _ _ (omega (arith, w.from, m)) _ c.signed.ensures.within;
      same = c.signed.ensures.same;
      runs = operand_minus A.text.now A.at A.nest _ w (expr_at A.text.now c.signed.new.pool) c.in-69.is _ c.next_word-v.ensures _ c.if-v-eq-NUMBER.false c.signed.ensures.runs;
    }

pub operand-returns-in-28 : goal.operand-returns-in-28
operand-returns-in-28 t c =
    let A = c.args in
    let w = c.next_word-w.ensures in
    record {
      within = later _ _ _ _ w.from _ c.signed-in-28.ensures.within;
      same = c.signed-in-28.ensures.same;
      runs = operand_not A.text.now A.at A.nest _ w (expr_at A.text.now c.signed-in-28.new.pool) (λ e. omega arith) _ c.in-28.is c.signed-in-28.ensures.runs;
    }

pub operand-returns-in_default : goal.operand-returns-in_default
operand-returns-in_default t c =
    let A = c.args in
    record {
      within = c.primary.ensures.within;
      same = c.primary.ensures.same;
      runs = operand_plain A.text.now A.at A.nest _ c.next_word-w.ensures (expr_at A.text.now c.primary.new.pool) (λ e. omega arith) _ (λ e. omega arith) c.primary.ensures.runs;
    }

pub primary-returns-in-1 : goal.primary-returns-in-1
primary-returns-in-1 t c =
    let A = c.args in
    record {
      within = later _ _ _ _ c.requires.1.from _ c.named.ensures.within;
      same = c.named.ensures.same;
      runs = primary_name A.text.now A.at A.nest _ c.requires.1 (expr_at A.text.now c.named.new.pool) _ c.in-1.is c.named.ensures.runs;
    }

pub primary-returns-in-2 : goal.primary-returns-in-2
primary-returns-in-2 t c =
    let A = c.args in
    let w = c.requires.1 in
    let m = class_moves _ _ _ w 2 c.in-2.is refl refl in
    let new = c.number_node.new.pool in
    rw c.number_node.ensures.read
    (leaf_did A.text.now A.pool.now new A.at A.at A.count 1 1 _ _ _ _ _ _ (omega (arith, m, w.from)) w.to c.number_node.ensures.written
    (primary_number A.text.now A.at A.nest _ w (expr_at A.text.now new) (A.count + 1) c.in-2.is
    (put_plain A.text.now A.pool.now new (A.count + 1) _ _ (omega arith) (omega (arith, m, w.from, w.to, c.requires)) c.number_node.ensures.written)))

pub primary-returns-in-33 : goal.primary-returns-in-33
primary-returns-in-33 t c =
    let A = c.args in
    let w = c.requires.1 in
    let m = class_moves _ _ _ w 33 c.in-33.is refl refl in
    let new = c.node.new.pool in
    rw c.node.ensures.read
    (leaf_did A.text.now A.pool.now new A.at A.at A.count 1 1 _ _ _ _ _ _ (omega (arith, m, w.from)) w.to c.node.ensures.written
    (primary_truth A.text.now A.at A.nest _ w (expr_at A.text.now new) true (A.count + 1) c.in-33.is
    (put_flag A.text.now A.pool.now new (A.count + 1) _ _ _ (omega arith) (omega (arith, m, w.from, w.to, c.requires)) true c.node.ensures.written)))

pub primary-returns-in-34 : goal.primary-returns-in-34
primary-returns-in-34 t c =
    let A = c.args in
    let w = c.requires.1 in
    let m = class_moves _ _ _ w 34 c.in-34.is refl refl in
    let new = c.node-in-34.new.pool in
    rw c.node-in-34.ensures.read
    (leaf_did A.text.now A.pool.now new A.at A.at A.count 1 1 _ _ _ _ _ _ (omega (arith, m, w.from)) w.to c.node-in-34.ensures.written
    (primary_truth A.text.now A.at A.nest _ w (expr_at A.text.now new) false (A.count + 1) c.in-34.is
    (put_flag A.text.now A.pool.now new (A.count + 1) _ _ _ (omega arith) (omega (arith, m, w.from, w.to, c.requires)) false c.node-in-34.ensures.written)))

pub primary-returns-in-None : goal.primary-returns-in-None
primary-returns-in-None t c =
    let A = c.args in
    record {
      within = c.wrapped-in-None.ensures.within;
      same = c.wrapped-in-None.ensures.same;
      runs = primary_brackets A.text.now A.at A.nest _ c.requires.1 (expr_at A.text.now c.wrapped-in-None.new.pool) c.in-None.ensures _
          (λ e. omega arith) (λ e. omega arith) (λ e. omega arith) (λ e. omega arith) c.wrapped-in-None.ensures.runs;
    }

pub primary-returns-in-Some : goal.primary-returns-in-Some
primary-returns-in-Some t c =
    let A = c.args in
    let i = c.requires.1 in
    record {
      within = later _ _ _ _ (omega (arith, i.from, i.on)) _ c.wrapped.ensures.within;
      same = c.wrapped.ensures.same;
      runs = primary_conversion A.text.now A.at A.nest _ i (expr_at A.text.now c.wrapped.new.pool) _ c.in-Some.ensures _
          (conversion_class _ _ c.in-Some.ensures).1 c.wrapped.ensures.runs;
    }

pub signed-returns : goal.signed-returns
signed-returns t c =
    let A = c.args in
    let x = c.in_ok-r.ensures in
    let p = c.requires in
    let mid = c.primary.new.pool in
    let new = c.node.new.pool in
    let n = c.in_ok-r.r.count + 1 in
    rw c.node.ensures.read
    (over_good A.text.now A.pool.now mid A.place A.at A.count 1 1 (λ f ts. R.primary f A.nest ts) (unary A.kind A.place) (omega (arith, p)) _ x new _ _ _ (omega (arith, x.within, p)) c.node.ensures.written
    (put_unary A.text.now mid new n _ _ _ (omega arith) (omega (arith, x.within, p, c.primary.auto)) A.kind (omega (arith, p)) (omega (arith, p)) (omega (arith, x.within)) c.node.ensures.written))

pub wrapped-returns : goal.wrapped-returns
wrapped-returns t c =
    let A = c.args in
    let x = c.in_ok-r.ensures in
    let p = c.requires in
    let mid = c.bracketed.new.pool in
    let new = c.node.new.pool in
    let n = c.in_ok-r.r.count + 1 in
    rw c.node.ensures.read
    (over_good A.text.now A.pool.now mid A.at A.at A.count 1 0 (λ f ts. R.bracketed f A.nest ts) (wrapped A.kind A.b A.place) (omega arith) _ x.1 new _ _ _ (omega (arith, x.0)) c.node.ensures.written
    (put_wrapped A.text.now mid new n _ _ _ (omega arith) (omega (arith, x.0, x.1.within, p, c.bracketed.auto)) A.kind (omega (arith, p)) (omega (arith, p)) (omega (arith, x.1.within)) c.node.ensures.written))
