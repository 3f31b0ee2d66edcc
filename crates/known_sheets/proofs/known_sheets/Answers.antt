use Rattle.std.proofs.Common.{refl}
use Rattle.netlist.specs.Netlist.{empty}
use Rattle.known_sheets.proofs.Texts.{resistance_drawn, triangle_drawn, loop_drawn, resistance_read, triangle_read, loop_read, nothing_read, resistance_prints, one_variable_prints, half_branch_prints, nothing_prints}
use Rattle.known_sheets.proofs.Resistance.{resistance_holds, resistance_law, nothing_holds}
use Rattle.known_sheets.proofs.Triangle.{triangle_holds, triangle_row, triangle_node}
use Rattle.known_sheets.proofs.Loop.{loop_holds, loop_row}
use Rattle.known_sheets.proofs.WholeResistance as whole_resistance
use Rattle.known_sheets.proofs.WholeTriangle as whole_triangle
use Rattle.known_sheets.proofs.WholeLoop as whole_loop
use Rattle.known_sheets.proofs.known_sheets.Goals as goal

pub returns : goal.returns
returns c = λ x y z. (
  resistance_prints,
  (
    nothing_prints,
    (
      one_variable_prints,
      (
        half_branch_prints,
        (
          (empty, nothing_read, nothing_holds, whole_resistance.nothing_holds),
          (
            (resistance_drawn, resistance_read, resistance_holds, whole_resistance.resistance_holds),
            (
              (resistance_drawn, resistance_read, resistance_law, whole_resistance.resistance_law),
              (
                (triangle_drawn, triangle_read, triangle_holds, whole_triangle.triangle_holds),
                (
                  (triangle_drawn, triangle_read, triangle_row, whole_triangle.triangle_row),
                  (
                    (triangle_drawn, triangle_read, triangle_node x y z, whole_triangle.triangle_node x y z),
                    (
                      (loop_drawn, loop_read, loop_holds, whole_loop.loop_holds),
                      (
                        (loop_drawn, loop_read, loop_row, whole_loop.loop_row),
                        (
                          refl,
                          (
                            refl,
                            (
                              refl,
                              (
                                refl,
                                tt,
                              ),
                            ),
                          ),
                        ),
                      ),
                    ),
                  ),
                ),
              ),
            ),
          ),
        ),
      ),
    ),
  ),
)
