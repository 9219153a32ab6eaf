use Rattle.logic.specs.declared.Sort.TheVariants.{Principal, Key, Formula, Variable, Control, Statement, Message}
use Rattle.logic.specs.Kind.{bodies, body_of, one, two, three}
use Rattle.faults.proofs.Sound.{sound_principal, sound_key, sound_formula, sound_variable, sound_control, sound_statement, sound_message, sound_absent, by_body, by_one, by_rest}
use mathlib.Core.Path.{refl, ◌∙◌}
use Rattle.faults.proofs.are_fields_sound.Goals as goal

pub returns-in-4 : goal.returns-in-4
unfolding body_of bodies
returns-in-4 c =
    let a = c.args in
    let i = a.index.now in
    by_body i.formulas a.m i.numbers.now a.r (two Formula Formula) c.in-4.is refl c.is_pair.ensures (sound_formula _ _ _ _) (sound_formula _ _ _ _) (sound_absent _ _ _ _)

pub returns-in-5 : goal.returns-in-5
unfolding body_of bodies
returns-in-5 c =
    let a = c.args in
    let i = a.index.now in
    by_body i.formulas a.m i.numbers.now a.r (three Formula Key Principal) c.in-5.is refl c.is_sealed.ensures (sound_formula _ _ _ _) (sound_key _ _ _ _) (sound_principal _ _ _ _)

pub returns-in-6 : goal.returns-in-6
unfolding body_of bodies
returns-in-6 c =
    let a = c.args in
    let i = a.index.now in
    by_body i.formulas a.m i.numbers.now a.r (three Formula Key Principal) c.in-6.is refl c.is_sealed-in-6.ensures (sound_formula _ _ _ _) (sound_key _ _ _ _) (sound_principal _ _ _ _)

pub returns-in-7 : goal.returns-in-7
unfolding body_of bodies
returns-in-7 c =
    let a = c.args in
    let i = a.index.now in
    by_body i.formulas a.m i.numbers.now a.r (two Formula Formula) c.in-7.is refl c.is_pair-in-7.ensures (sound_formula _ _ _ _) (sound_formula _ _ _ _) (sound_absent _ _ _ _)

pub returns-in-8 : goal.returns-in-8
unfolding body_of bodies
returns-in-8 c =
    let a = c.args in
    let i = a.index.now in
    by_body i.formulas a.m i.numbers.now a.r (three Principal Key Principal) c.in-8.is refl c.is_shared_key.ensures (sound_principal _ _ _ _) (sound_key _ _ _ _) (sound_principal _ _ _ _)

pub returns-in-9 : goal.returns-in-9
unfolding body_of bodies
returns-in-9 c =
    let a = c.args in
    let i = a.index.now in
    by_body i.formulas a.m i.numbers.now a.r (two Key Principal) c.in-9.is refl c.is_public_key.ensures (sound_key _ _ _ _) (sound_principal _ _ _ _) (sound_absent _ _ _ _)

pub returns-in-10 : goal.returns-in-10
unfolding body_of bodies
returns-in-10 c =
    let a = c.args in
    let i = a.index.now in
    by_body i.formulas a.m i.numbers.now a.r (three Principal Formula Principal) c.in-10.is refl c.is_shared_secret.ensures (sound_principal _ _ _ _) (sound_formula _ _ _ _) (sound_principal _ _ _ _)

pub returns-in-12 : goal.returns-in-12
unfolding body_of bodies
returns-in-12 c =
    let a = c.args in
    let i = a.index.now in
    by_body i.formulas a.m i.numbers.now a.r (two Principal Formula) c.in-12.is refl c.is_claim.ensures (sound_principal _ _ _ _) (sound_formula _ _ _ _) (sound_absent _ _ _ _)

pub returns-in-13 : goal.returns-in-13
unfolding body_of bodies
returns-in-13 c =
    let a = c.args in
    let i = a.index.now in
    by_body i.formulas a.m i.numbers.now a.r (two Principal Formula) c.in-13.is refl c.is_claim-in-13.ensures (sound_principal _ _ _ _) (sound_formula _ _ _ _) (sound_absent _ _ _ _)

pub returns-in-14 : goal.returns-in-14
unfolding body_of bodies
returns-in-14 c =
    let a = c.args in
    let i = a.index.now in
    by_body i.formulas a.m i.numbers.now a.r (two Principal Formula) c.in-14.is refl c.is_claim-in-14.ensures (sound_principal _ _ _ _) (sound_formula _ _ _ _) (sound_absent _ _ _ _)

pub returns-in-15 : goal.returns-in-15
unfolding body_of bodies
returns-in-15 c =
    let a = c.args in
    let i = a.index.now in
    by_body i.formulas a.m i.numbers.now a.r (two Principal Formula) c.in-15.is refl c.is_claim-in-15.ensures (sound_principal _ _ _ _) (sound_formula _ _ _ _) (sound_absent _ _ _ _)

pub returns-in-17 : goal.returns-in-17
unfolding body_of bodies
returns-in-17 c =
    let a = c.args in
    let i = a.index.now in
    by_body i.formulas a.m i.numbers.now a.r (two Variable Control) c.in-17.is refl c.is_delegation.ensures (sound_variable _ _ _ _) (sound_control _ _ _ _) (sound_absent _ _ _ _)

pub returns-in-33 : goal.returns-in-33
unfolding body_of bodies
returns-in-33 c =
    let a = c.args in
    let i = a.index.now in
    by_body i.formulas a.m i.numbers.now a.r (three Principal Principal Formula) c.in-33.is refl c.is_message.ensures (sound_principal _ _ _ _) (sound_principal _ _ _ _) (sound_formula _ _ _ _)

pub returns-in-34 : goal.returns-in-34
unfolding body_of bodies
returns-in-34 c =
    let a = c.args in
    let i = a.index.now in
    by_body i.formulas a.m i.numbers.now a.r (two Message Statement) c.in-34.is refl c.is_goal.ensures (sound_message _ _ _ _) (sound_statement _ _ _ _) (sound_absent _ _ _ _)

pub returns-in-11 : goal.returns-in-11
unfolding body_of bodies
returns-in-11 c =
    let a = c.args in
    let i = a.index.now in
    by_one i.formulas a.m i.numbers.now a.r (one Formula) c.in-11.is refl (c.is_formula.ensures ∙ sound_formula _ _ _ _) (sound_absent _ _ _ _) (sound_absent _ _ _ _) refl refl

pub returns-in-32 : goal.returns-in-32
unfolding body_of bodies
returns-in-32 c =
    let a = c.args in
    let i = a.index.now in
    by_one i.formulas a.m i.numbers.now a.r (one Statement) c.in-32.is refl (c.is_statement.ensures ∙ sound_statement _ _ _ _) (sound_absent _ _ _ _) (sound_absent _ _ _ _) refl refl

pub returns-in_default : goal.returns-in_default
returns-in_default c =
    let i = c.args.index.now in
    let r = c.in_default.in_default-own.rest in
    by_rest i.formulas c.args.m i.numbers.now c.args.r r.0.0.0.0 r.0.0.0.1 r.0.0.1 r.0.1 r.1
