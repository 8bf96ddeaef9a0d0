use Rattle.rela_change_report.proofs.ReportLaws.{made_rows_agree, names_same, reports_agree}
use Rattle.rela_change_report.proofs.laws.same_changes_agree.Goals as goal

pub returns : goal.returns
returns c =
    let one = c.same_checks_are_equal.ensures.specified in
    let agree = c.right_rows_agree.ensures.agree in
    record {
      names = λ change other same. names_same one agree 0 change other same;
      rows = λ states change other rows told same are are_told. made_rows_agree one agree states change other same rows told are are_told;
      reports = λ steady states change other answer given same reports others. reports_agree one agree states change other same steady answer given reports others;
    }
