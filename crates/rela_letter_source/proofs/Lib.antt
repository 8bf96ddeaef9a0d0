mod BuiltStates
mod FoundAt
mod GrownSteps
mod LaidOut
mod SourceWords
mod StepsGo
