pub mod Demos
