-- `mir::shape::shape_of` meets its contract: each arm gives its kind's row of the table, since its kind is known there.
-- The two arms with ranges go by the numbers that the range leaves.
use native.Mathlib.Omega.{arith}
use Rattle.mir.specs.Shapes.{shape_of}
use Rattle.mir.proofs.Shapes.{bare_first, bare_past}
use Rattle.mir.proofs.shape.shape_of.Goals as goal

pub returns-in-0-to-1 : goal.returns-in-0-to-1
returns-in-0-to-1 c = rw c.of-in-0-to-1.ensures (bare_first _ (omega arith))

pub returns-in-21-to-4294967295 : goal.returns-in-21-to-4294967295
returns-in-21-to-4294967295 c =
    rw c.of-in-21-to-4294967295.ensures (bare_past _ (omega arith))

pub returns-in-2 : goal.returns-in-2
unfolding shape_of
returns-in-2 c =
    rw c.in-2.is c.of.ensures

pub returns-in-3 : goal.returns-in-3
unfolding shape_of
returns-in-3 c =
    rw c.in-3.is c.of-in-3.ensures

pub returns-in-4 : goal.returns-in-4
unfolding shape_of
returns-in-4 c =
    rw c.in-4.is c.of-in-4.ensures

pub returns-in-5 : goal.returns-in-5
unfolding shape_of
returns-in-5 c =
    rw c.in-5.is c.of-in-5.ensures

pub returns-in-6 : goal.returns-in-6
unfolding shape_of
returns-in-6 c =
    rw c.in-6.is c.of-in-6.ensures

pub returns-in-7 : goal.returns-in-7
unfolding shape_of
returns-in-7 c =
    rw c.in-7.is c.of-in-7.ensures

pub returns-in-8 : goal.returns-in-8
unfolding shape_of
returns-in-8 c =
    rw c.in-8.is c.of-in-8.ensures

pub returns-in-9 : goal.returns-in-9
unfolding shape_of
returns-in-9 c =
    rw c.in-9.is c.of-in-9.ensures

pub returns-in-10 : goal.returns-in-10
unfolding shape_of
returns-in-10 c =
    rw c.in-10.is c.of-in-10.ensures

pub returns-in-11 : goal.returns-in-11
unfolding shape_of
returns-in-11 c =
    rw c.in-11.is c.of-in-11.ensures

pub returns-in-12 : goal.returns-in-12
unfolding shape_of
returns-in-12 c =
    rw c.in-12.is c.of-in-12.ensures

pub returns-in-13 : goal.returns-in-13
unfolding shape_of
returns-in-13 c =
    rw c.in-13.is c.of-in-13.ensures

pub returns-in-14 : goal.returns-in-14
unfolding shape_of
returns-in-14 c =
    rw c.in-14.is c.of-in-14.ensures

pub returns-in-15 : goal.returns-in-15
unfolding shape_of
returns-in-15 c =
    rw c.in-15.is c.of-in-15.ensures

pub returns-in-16 : goal.returns-in-16
unfolding shape_of
returns-in-16 c =
    rw c.in-16.is c.of-in-16.ensures

pub returns-in-17 : goal.returns-in-17
unfolding shape_of
returns-in-17 c =
    rw c.in-17.is c.of-in-17.ensures

pub returns-in-18 : goal.returns-in-18
unfolding shape_of
returns-in-18 c =
    rw c.in-18.is c.of-in-18.ensures

pub returns-in-19 : goal.returns-in-19
unfolding shape_of
returns-in-19 c =
    rw c.in-19.is c.of-in-19.ensures

pub returns-in-20 : goal.returns-in-20
unfolding shape_of
returns-in-20 c =
    rw c.in-20.is c.of-in-20.ensures
